-- What is fed and looked at in a section, by actors: the shows of each tap in it, and where among them each look stands.
use Rattle.std.specs.Prelude.{◌≡◌, ◌≢◌, ◌≤◌, ℕ, ◌+◌, ◌==◌, cond, length, filter, List, [], ◌∷◌, ◌++◌, Option, Some, None, slice_get}
use Rattle.ids_core.specs.declared.object.ObjectId.{ObjectId}
use Rattle.dc_talk.specs.declared.line.Line.TheVariants as line
use Rattle.dc_talk.specs.declared.log.Deed.{Deed}
use Rattle.dc_talk.specs.declared.log.Deed.TheVariants.{Told}
use Rattle.dc_talk.specs.declared.log.Note.{Note}
use Rattle.dc_talk.specs.declared.seen.Seen.{Seen}
use Rattle.script_core.specs.declared.taps.Show.{Show}
use Rattle.script_core.specs.declared.taps.TapState.{TapState}
use Rattle.script_core.specs.declared.steps.ClientStep.{ClientStep}
use Rattle.script_core.specs.declared.steps.OperatorStep.{OperatorStep}
use Rattle.script_core.specs.Feeds.{show_in}
use Rattle.script_core.specs.Taps.{fed_tap, feed_in, FeedsSo, seen_through, looks, look_in}
use Rattle.run_sections.specs.Orders.{deeds_of, InOrder}

-- ---- feeds

-- shows, and the one that was found behind them, where it was
abbrev pub shows_then : Option Show → List Show → List Show
shows_then None shows = shows
shows_then (Some show) shows = shows ++ show ∷ []

-- the shows of a tap behind a feed of one, where there is one
abbrev pub shows_fed : Option ℕ → List Deed → (ℕ → List Show) → ℕ → List Show
shows_fed None deeds shows centre = shows centre
shows_fed (Some fed) deeds shows centre = cond (centre == fed) (shows_then (show_in deeds) (shows centre)) (shows centre)

-- the shows of each tap when a section begins: the one that it shows there
abbrev pub shows_at : (ℕ → TapState) → ℕ → List Show
shows_at taps centre = (taps centre).show ∷ []

-- the operator feeds these taps by a step, where it is a feed, and so their shows grow; no tap changes its objects
abbrev pub FeedGoes : (ℕ → TapState) → (ℕ → List Show) → ℕ → OperatorStep → List Note → (ℕ → List Show) → Type 0
FeedGoes taps shows step does notes later = FeedsSo taps does (deeds_of notes) × ((centre : ℕ) → later centre ≡ shows_fed (feed_in does) (deeds_of notes) shows centre)

-- a tap behind shows, one after another: it shows the last one
abbrev pub tap_behind : TapState → List Show → TapState
tap_behind tap [] = tap
tap_behind tap (show ∷ shows) = tap_behind (fed_tap (Some show) tap) shows

-- ---- what a section's notes say of its feeds

-- the notes of a step of a number among those of a section
abbrev pub notes_at : ℕ → List Note → List Note
notes_at step notes = filter (λ note. note.step == step) notes

-- the shows behind steps of the operator, the first of which has a number, by what it noted in the section
abbrev pub shows_behind : List Note → ℕ → List OperatorStep → (ℕ → List Show) → ℕ → List Show
shows_behind notes step [] shows = shows
shows_behind notes step (does ∷ rest) shows = shows_behind notes (step + 1) rest (shows_fed (feed_in does) (deeds_of (notes_at step notes)) shows)

-- ---- looks

-- a client sees an object of a centre's tap in one of its shows, by its place, which is not before the place of the
-- client's last look there
pub record LooksThere (taps : ℕ → TapState) (shows : ℕ → List Show) (client centre : ℕ) (object : ObjectId) (deeds : List Deed) (places later : ℕ → ℕ) : Type 0 where
  pub place : ℕ
  pub show : Show
  pub there : slice_get (shows centre) place ≡ Some show
  pub goes_on : places centre ≤ place
  pub seen : deeds ≡ looks client centre object (seen_through (fed_tap (Some show) (taps centre)) object)
  pub then_is : (other : ℕ) → later other ≡ cond (other == centre) place (places other)

-- the same, where there is a look; without one the places stay
abbrev pub LooksIn : (ℕ → TapState) → (ℕ → List Show) → ℕ → Option (ℕ × ObjectId) → List Deed → (ℕ → ℕ) → (ℕ → ℕ) → Type 0
LooksIn taps shows client None deeds places later = (other : ℕ) → later other ≡ places other
LooksIn taps shows client (Some looked) deeds places later = LooksThere taps shows client looked.0 looked.1 deeds places later

-- a client takes a step of a section in which the taps had these shows
abbrev pub LookGoes : (ℕ → TapState) → (ℕ → List Show) → ℕ → (ℕ → ℕ) → ℕ → ClientStep → List Note → (ℕ → ℕ) → Type 0
LookGoes taps shows client places step does notes later = LooksIn taps shows client (look_in does) (deeds_of notes) places later

-- a client's steps in a section of a number, one after another; at first it may see each tap's first show there
pub record Looks (taps : ℕ → TapState) (shows : ℕ → List Show) (client number : ℕ) (steps : List ClientStep) (notes : List Note) : Type 0 where
  pub last : ℕ → ℕ
  pub order : InOrder (LookGoes taps shows client) number 1 (λ centre. 0) steps notes last

-- ---- looks along a log

-- a deed that tells no look
abbrev pub TellsNoLook : Deed → Type 0
TellsNoLook deed = (looker centre : ℕ) (object : ObjectId) (seen : Seen) → deed ≢ Told (line.Look looker centre object seen)

-- a note tells a look of this client: what the tap of a centre has of an object in the show at this place among the shows of
-- the centre. The place is that of the client's last look there or a later one, it is that of the last show of the earlier
-- sections or a later one, and the show is there by the end of the note's own section. `before` has the shows of each
-- centre in front of the section of each number
pub record SeesAt (objects : ℕ → List ObjectId) (before : ℕ → ℕ → List Show) (client : ℕ) (last : ℕ → ℕ) (note : Note) (centre place : ℕ) : Type 0 where
  pub object : ObjectId
  pub seen : Seen
  pub show : Show
  pub tells : note.deed ≡ Told (line.Look client centre object seen)
  pub there : slice_get (before (note.section + 1) centre) place ≡ Some show
  pub goes_on : last centre ≤ place
  pub not_earlier : length (before note.section centre) ≤ place + 1
  pub sees : seen_through (record { objects = objects centre; show = show }) object ≡ Some seen

-- the notes of a client's log, one after another, with the place of its last look at each centre in front of them: each
-- line of a look sees a show there
pub data LooksAlong (objects : ℕ → List ObjectId) (before : ℕ → ℕ → List Show) (client : ℕ) : (ℕ → ℕ) → List Note → Type 0 where
  no_more : {last : ℕ → ℕ} → LooksAlong objects before client last []
  other_note : {last : ℕ → ℕ} {note : Note} {rest : List Note} → TellsNoLook note.deed → LooksAlong objects before client last rest → LooksAlong objects before client last (note ∷ rest)
  look_note : {last : ℕ → ℕ} {note : Note} {rest : List Note} (centre place : ℕ) → SeesAt objects before client last note centre place → LooksAlong objects before client (λ other. cond (other == centre) place (last other)) rest → LooksAlong objects before client last (note ∷ rest)
