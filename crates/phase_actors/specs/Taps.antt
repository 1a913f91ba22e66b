-- The taps of a phase, as their feeders and their readers see them.
use Rattle.std.specs.Prelude.{◌≡◌, ◌≤◌, ◌<◌, ℕ, zero, suc, map, length, List, [], ◌∷◌, Option, Some, None, slice_get, slice_index_or}
use Rattle.std.specs.List.{AllZip}
use Rattle.ids_core.specs.declared.object.ObjectId.{ObjectId}
use Rattle.dc_talk.specs.declared.log.Deed.{Deed}
use Rattle.dc_talk.specs.declared.seen.Seen.{Seen}
use Rattle.dc_talk.specs.Logs.{Logged}
use Rattle.dc_talk.specs.Acting.{Acting, noted_all, Leaves}
use Rattle.script_core.specs.declared.taps.Show.{Show}
use Rattle.script_core.specs.declared.taps.TapState.{TapState}
use Rattle.script_core.specs.declared.steps.ClientStep.{ClientStep}
use Rattle.script_core.specs.declared.steps.OperatorStep.{OperatorStep}
use Rattle.script_core.specs.Feeds.{FeedDeeds, show_in}
use Rattle.script_core.specs.Orders.{OperatorDeeds}
use Rattle.script_core.specs.Taps.{fed_tap, feed_in, FeedsSo, seen_through, looks, look_in}
use Rattle.client_stub.specs.Playing.{Playing, Takes}
use Rattle.run_table.specs.Taps.{taps_of}
use Rattle.run_sections.specs.Taps.{shows_at, shows_then, shows_fed}
use Rattle.read_tap.specs.Shows.{IsFront, ShowsView, FeederView, width, last_of}

-- the shows of the tap of each centre, where these are those of the first centres in order; of each other one the show that
-- it has
abbrev pub shows_among : List TapState → List (List Show) → ℕ → List Show
shows_among taps all zero = shows_at (taps_of taps) zero
shows_among taps all (suc place) = slice_index_or all place (shows_at (taps_of taps) (suc place))

-- ---- readers

-- the shows of each tap that its reader has seen
abbrev pub shows_read : List TapState → List ShowsView → ℕ → List Show
shows_read taps readers = shows_among taps (map (λ (reader : ShowsView). reader.shows) readers)

-- a reader of a tap: it has seen a show, and the shows have as many states as the tap has objects
pub record IsReader (tap : TapState) (reader : ShowsView) : Type 0 where
  pub wide : width reader.table ≡ length tap.objects
  pub some : 0 < length reader.shows

-- readers of the taps of the first centres, in order
pub record AreReaders (taps : List TapState) (readers : List ShowsView) : Type 0 where
  pub few : length readers ≤ length taps
  pub each : (place : ℕ) (reader : ShowsView) → slice_get readers place ≡ Some reader → IsReader (taps_of taps (suc place)) reader

-- a reader of the same tap, which may have seen more shows
abbrev pub HasRead : ShowsView → ShowsView → Type 0
HasRead old new = (new.table ≡ old.table) × IsFront old.shows new.shows

-- so are all of them
abbrev pub HaveRead : List ShowsView → List ShowsView → Type 0
HaveRead old new = AllZip HasRead old new

-- this is seen of an object through a tap that has the last of these shows
pub record SeesOf (tap : TapState) (shows : List Show) (object : ObjectId) (seen : Option Seen) : Type 0 where
  pub show : Show
  pub last : last_of shows ≡ Some show
  pub seen_is : seen ≡ seen_through (fed_tap (Some show) tap) object

-- the deeds are those of a client's look through the tap of a centre at the last of the shows that its reader has seen
pub record SeesLast (taps : List TapState) (readers : List ShowsView) (client centre : ℕ) (object : ObjectId) (deeds : List Deed) : Type 0 where
  pub show : Show
  pub last : last_of (shows_read taps readers centre) ≡ Some show
  pub deeds_are : deeds ≡ looks client centre object (seen_through (fed_tap (Some show) (taps_of taps centre)) object)

-- so they are where there is a look
abbrev pub SeesIn : List TapState → List ShowsView → ℕ → Option (ℕ × ObjectId) → List Deed → Type 0
SeesIn taps readers client None deeds = Unit {0}
SeesIn taps readers client (Some looked) deeds = SeesLast taps readers client looked.0 looked.1 deeds

-- a client looked, which its log tells
pub record HasLooked (taps : List TapState) (readers : List ShowsView) (client centre : ℕ) (object : ObjectId) (old new : Logged) : Type 0 where
  pub deeds : List Deed
  pub sees : SeesLast taps readers client centre object deeds
  pub log : new ≡ noted_all old deeds

-- a client took a step, and saw the last show that its reader has seen where it looked through a tap
pub record TakesReading (taps : List TapState) (readers : List ShowsView) (client : ℕ) (step : ClientStep) (old new : Playing) : Type 0 where
  pub takes : Takes step old new
  pub sees : SeesIn taps readers client (look_in step) takes.deeds

-- ---- feeders

-- the shows of each tap that its feeder keeps
abbrev pub shows_kept : List TapState → List FeederView → ℕ → List Show
shows_kept taps feeders = shows_among taps (map (λ (feeder : FeederView). feeder.shows) feeders)

-- feeders of the taps of the first centres, in order; a tap of n centres without one has no object
pub record AreFeeders (n : ℕ) (taps : List TapState) (feeders : List FeederView) : Type 0 where
  pub each : (place : ℕ) (feeder : FeederView) → slice_get feeders place ≡ Some feeder → feeder.objects ≡ (taps_of taps (suc place)).objects
  pub none : (place : ℕ) → length feeders ≤ place → place < n → (taps_of taps (suc place)).objects ≡ []

-- the feeder of the same tap, which may have more shows
pub record HasFed (old new : FeederView) : Type 0 where
  pub table : new.table ≡ old.table
  pub objects : new.objects ≡ old.objects
  pub front : IsFront old.shows new.shows

-- so are all of them
abbrev pub HaveFed : List FeederView → List FeederView → Type 0
HaveFed old new = AllZip HasFed old new

-- the deeds are those of a feed by the feeder of a centre's tap, whose shows are then those with the one that was found
pub record FeedsBy (centre : ℕ) (old new : FeederView) (deeds : List Deed) : Type 0 where
  pub feeds : FeedDeeds centre old.objects deeds
  pub shows : new.shows ≡ shows_then (show_in deeds) old.shows
  pub fed : HasFed old new

-- the same by one of several feeders
pub record FeedsAmong (taps : List TapState) (centre : ℕ) (old new : List FeederView) (deeds : List Deed) : Type 0 where
  pub feeds : FeedDeeds centre (taps_of taps centre).objects deeds
  pub shows : (other : ℕ) → shows_kept taps new other ≡ shows_fed (Some centre) deeds (shows_kept taps old) other
  pub fed : HaveFed old new

-- the operator of n centres took a step, and fed a tap by its feeder where the step is a feed
pub record TakesOrder (taps : List TapState) (n : ℕ) (step : OperatorStep) (feeders later : List FeederView) (old new : Acting) : Type 0 where
  pub deeds : List Deed
  pub such : OperatorDeeds n step deeds
  pub feeds : FeedsSo (taps_of taps) step deeds
  pub shows : (other : ℕ) → shows_kept taps later other ≡ shows_fed (feed_in step) deeds (shows_kept taps feeders) other
  pub fed : HaveFed feeders later
  pub leaves : Leaves old new deeds
