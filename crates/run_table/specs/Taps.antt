-- The taps of a table, by their centres, and steps that look through them and feed them.
use Rattle.std.specs.Prelude.{◌≡◌, ℕ, zero, suc, List, [], Some, map, slice_index_or}
use Rattle.std.specs.List.{range_with_len}
use Rattle.dc_talk.specs.declared.log.Deed.{Deed}
use Rattle.dc_talk.specs.Acting.{Acting}
use Rattle.script_core.specs.declared.taps.Tapped.{Tapped}
use Rattle.script_core.specs.declared.taps.TapState.{TapState}
use Rattle.script_core.specs.declared.steps.ClientStep.{ClientStep}
use Rattle.script_core.specs.declared.steps.OperatorStep.{OperatorStep}
use Rattle.script_core.specs.Feeds.{FeedDeeds, show_in}
use Rattle.script_core.specs.Taps.{first_tap, fed_tap, FeedsSo, taps_fed, taps_then, LooksSo}
use Rattle.client_stub.specs.Playing.{Playing, Takes, Operates}

-- a tap that has no object
abbrev pub no_tap : TapState
no_tap = record { objects = []; show = record { vector = []; states = [] } }

-- the tap of a centre, counted from 1, and one that has no object where there is none
abbrev pub taps_of : List TapState → ℕ → TapState
taps_of taps zero = no_tap
taps_of taps (suc place) = slice_index_or taps place no_tap

-- the taps of n centres at first, in order
abbrev pub new_taps : ℕ → List Tapped → List TapState
new_taps n taps = map (first_tap n taps) (range_with_len 1 n)

-- a client took a step, and saw what the tap shows where it looked through one
pub record TakesWith (taps : List TapState) (step : ClientStep) (old new : Playing) : Type 0 where
  pub takes : Takes step old new
  pub looks : LooksSo (taps_of taps) old.client.client step takes.deeds

-- the deeds are those of a feed of a tap, which then shows what they found
pub record FeedsTap (centre : ℕ) (old new : TapState) (deeds : List Deed) : Type 0 where
  pub feeds : FeedDeeds centre old.objects deeds
  pub later : new ≡ fed_tap (show_in deeds) old

-- they are those of a feed of the tap of a centre, and the taps are as they leave them
pub record FeedsOne (fed : ℕ) (old new : List TapState) (deeds : List Deed) : Type 0 where
  pub feeds : FeedDeeds fed (taps_of old fed).objects deeds
  pub later : (centre : ℕ) → taps_of new centre ≡ taps_fed (Some fed) deeds (taps_of old) centre

-- the operator of n centres took a step, fed the objects of the tap where it fed one, and the taps are as that leaves them
pub record OperatesWith (n : ℕ) (step : OperatorStep) (taps later : List TapState) (old new : Acting) : Type 0 where
  pub operates : Operates n step old new
  pub feeds : FeedsSo (taps_of taps) step operates.deeds
  pub behind : (centre : ℕ) → taps_of later centre ≡ taps_then step operates.deeds (taps_of taps) centre
