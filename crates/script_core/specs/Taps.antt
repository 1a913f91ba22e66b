-- Taps: which objects they show, what they show at first and behind a feed, and what a look sees.
use Rattle.std.specs.Prelude.{◌≡◌, ◌≤◌, ◌≢◌, ℕ, ◌==◌, cond, length, map, All, List, [], ◌∷◌, Option, Some, None}
use Rattle.std.specs.List.{filter_map}
use Rattle.std.specs.Option.{option_map}
use Rattle.list_core.specs.Choices.{when}
use Rattle.list_core.specs.Members.{In}
use Rattle.ids_core.specs.declared.object.ObjectId.{ObjectId}
use Rattle.ids_core.specs.Ids.{same_object}
use Rattle.ids_core.specs.Name.{IsName}
use Rattle.vv_core.specs.Vectors.{zeros}
use Rattle.tx_core.specs.declared.state.State.{State}
use Rattle.tx_core.specs.States.{empty_of, value_of}
use Rattle.dc_talk.specs.declared.log.Deed.{Deed}
use Rattle.dc_talk.specs.declared.log.Deed.TheVariants.{Told}
use Rattle.dc_talk.specs.declared.line.Line.TheVariants as line
use Rattle.dc_talk.specs.declared.seen.Seen.{Seen}
use Rattle.script_core.specs.declared.taps.Tapped.{Tapped}
use Rattle.script_core.specs.declared.taps.Show.{Show}
use Rattle.script_core.specs.declared.taps.TapState.{TapState}
use Rattle.script_core.specs.declared.taps.TheConstants.{MOST_TAPPED}
use Rattle.script_core.specs.declared.steps.ClientStep.{ClientStep}
use Rattle.script_core.specs.declared.steps.ClientStep.TheVariants.{Look}
use Rattle.script_core.specs.declared.steps.OperatorStep.{OperatorStep}
use Rattle.script_core.specs.declared.steps.OperatorStep.TheVariants.{Feed}
use Rattle.script_core.specs.declared.steps.Step.{Step}
use Rattle.script_core.specs.declared.steps.Step.TheVariants.{Client, Operator}
use Rattle.script_core.specs.Steps.{IsCount}
use Rattle.script_core.specs.Feeds.{FeedDeeds, show_in}

-- ---- the taps of a script

-- none of these stands among them twice
abbrev pub AreOnce : List Tapped → Type 0
AreOnce [] = Unit {0}
AreOnce (tapped ∷ rest) = (In tapped rest → ⊥) × AreOnce rest

-- objects that taps of n centres may show
pub record AreTaps (n : ℕ) (taps : List Tapped) : Type 0 where
  pub few : length taps ≤ MOST_TAPPED
  pub each : All (λ (tapped : Tapped). IsCount n tapped.centre × IsName tapped.object.name) taps
  pub once : AreOnce taps

-- the objects that the tap of a centre shows, in their order
abbrev pub objects_on : List Tapped → ℕ → List ObjectId
objects_on taps centre = filter_map (λ (tapped : Tapped). when (tapped.centre == centre) tapped.object) taps

-- a step feeds a tap, or looks at an object of one, that is there, where it does so at all
abbrev pub IsOnTap : List Tapped → Step → Type 0
IsOnTap taps (Client client (Look centre object)) = In object (objects_on taps centre)
IsOnTap taps (Client client step) = Unit {0}
IsOnTap taps (Operator (Feed centre)) = objects_on taps centre ≢ []
IsOnTap taps (Operator step) = Unit {0}

-- ---- what a tap shows

-- the states of these objects before any operation
abbrev pub empty_states : List ObjectId → List State
empty_states objects = map (λ (object : ObjectId). empty_of object.sort) objects

-- the show of these objects before any record, among n centres
abbrev pub opening : ℕ → List ObjectId → Show
opening n objects = record { vector = zeros n; states = empty_states objects }

-- the tap of each of n centres at first
abbrev pub first_tap : ℕ → List Tapped → ℕ → TapState
first_tap n taps centre = record { objects = objects_on taps centre; show = opening n (objects_on taps centre) }

-- the tap behind deeds of a feed: it shows what they found, and else what it showed before
abbrev pub fed_tap : Option Show → TapState → TapState
fed_tap None tap = tap
fed_tap (Some show) tap = record { objects = tap.objects; show = show }

-- ---- feeds

-- the centre whose tap a step feeds, where it does
abbrev pub feed_in : OperatorStep → Option ℕ
feed_in (Feed centre) = Some centre
feed_in _ = None

-- the deeds are those of the feed, where there is one
abbrev pub FeedsAt : (ℕ → TapState) → List Deed → Option ℕ → Type 0
FeedsAt taps deeds None = Unit {0}
FeedsAt taps deeds (Some centre) = FeedDeeds centre (taps centre).objects deeds

-- a step of the operator feeds the objects of the tap, where it feeds one
abbrev pub FeedsSo : (ℕ → TapState) → OperatorStep → List Deed → Type 0
FeedsSo taps step deeds = FeedsAt taps deeds (feed_in step)

-- the taps behind a feed, where there is one
abbrev pub taps_fed : Option ℕ → List Deed → (ℕ → TapState) → ℕ → TapState
taps_fed None deeds taps centre = taps centre
taps_fed (Some fed) deeds taps centre = cond (centre == fed) (fed_tap (show_in deeds) (taps centre)) (taps centre)

-- the taps behind a step of the operator
abbrev pub taps_then : OperatorStep → List Deed → (ℕ → TapState) → ℕ → TapState
taps_then step deeds taps = taps_fed (feed_in step) deeds taps

-- ---- looks

-- the state of an object among those of a show
abbrev pub state_shown : List ObjectId → List State → ObjectId → Option State
state_shown [] states object = None
state_shown (first ∷ objects) [] object = None
state_shown (first ∷ objects) (state ∷ states) object = cond (same_object first object) (Some state) (state_shown objects states object)

-- what a look through a tap sees of an object, where the tap has it
abbrev pub seen_through : TapState → ObjectId → Option Seen
seen_through tap object = option_map (λ (state : State). record { vector = tap.show.vector; value = value_of state }) (state_shown tap.objects tap.show.states object)

-- the line of a look that sees this; none where it sees nothing
abbrev pub looks : ℕ → ℕ → ObjectId → Option Seen → List Deed
looks client centre object None = []
looks client centre object (Some seen) = Told (line.Look client centre object seen) ∷ []

-- the tap and the object of a look, where a step is one
abbrev pub look_in : ClientStep → Option (ℕ × ObjectId)
look_in (Look centre object) = Some (centre, object)
look_in _ = None

-- the deeds are those of the look, where there is one
abbrev pub LooksAt : (ℕ → TapState) → ℕ → List Deed → Option (ℕ × ObjectId) → Type 0
LooksAt taps client deeds None = Unit {0}
LooksAt taps client deeds (Some looked) = deeds ≡ looks client looked.0 looked.1 (seen_through (taps looked.0) looked.1)

-- a step of a client sees what the tap shows, where it looks through one
abbrev pub LooksSo : (ℕ → TapState) → ℕ → ClientStep → List Deed → Type 0
LooksSo taps client step deeds = LooksAt taps client deeds (look_in step)
