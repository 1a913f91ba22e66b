-- What an actor does by itself in a section, one thing after another.
use Rattle.std.specs.Prelude.{◌≡◌, ◌≢◌, ◌≤◌, ℕ, ◌+◌, map, length, All, List, [], ◌∷◌, ◌++◌}
use Rattle.dc_talk.specs.declared.sent.Sent.{Sent}
use Rattle.dc_talk.specs.declared.log.Deed.{Deed}
use Rattle.dc_talk.specs.declared.log.Note.{Note}
use Rattle.dc_talk.specs.declared.links.Arrival.{Arrival}
use Rattle.script_core.specs.declared.steps.ClientStep.{ClientStep}
use Rattle.script_core.specs.declared.steps.OperatorStep.{OperatorStep}
use Rattle.script_core.specs.declared.rounds.TheConstants.{MOST_MAILED}
use Rattle.script_core.specs.Steps.{IsCount}
use Rattle.script_core.specs.Deeds.{Progress, StepDeeds, stepped}
use Rattle.script_core.specs.Orders.{OperatorDeeds}
use Rattle.script_core.specs.Links.{Inlet, arrivals, arrived, inlet_after, inlet_closed}
use Rattle.script_core.specs.Rounds.{SenderDeeds, ReceiverDeeds, ReporterDeeds, PrunerDeeds}
use Rattle.run_book.specs.Played.{IsAt}

-- the deeds of notes
abbrev pub deeds_of : List Note → List Deed
deeds_of notes = map (λ note. note.deed) notes

-- things that are done one after another from a state on, each in a step of its number in a section, with the notes that
-- they leave in order and the state behind them
pub data InOrder {S M : Type 0} (Does : S → ℕ → M → List Note → S → Type 0) (section : ℕ) : ℕ → S → List M → List Note → S → Type 0 where
  none_left : {step : ℕ} {s : S} → InOrder Does section step s [] [] s
  one_first : {step : ℕ} {s last : S} {m : M} {rest : List M} {notes : List Note} (next : S) (mine later : List Note) → notes ≡ mine ++ later → All (IsAt section step) mine → Does s step m mine next → InOrder Does section (step + 1) next rest later last → InOrder Does section step s (m ∷ rest) notes last

-- a client that has come so far takes a step
abbrev pub ClientGoes : Progress → ℕ → ClientStep → List Note → Progress → Type 0
ClientGoes p step does notes later = StepDeeds p does (deeds_of notes) × (later ≡ stepped p does notes)

-- the operator of n centres takes one; it keeps nothing in mind
abbrev pub OperatorGoes : ℕ → Unit {0} → ℕ → OperatorStep → List Note → Unit {0} → Type 0
OperatorGoes n s step does notes later = OperatorDeeds n does (deeds_of notes)

-- a worker of centre i that keeps nothing in mind makes a round of a number
abbrev pub SenderGoes : ℕ → ℕ → Unit {0} → ℕ → ℕ → List Note → Unit {0} → Type 0
SenderGoes n i s step round notes later = SenderDeeds n i (deeds_of notes)

abbrev pub ReporterGoes : ℕ → ℕ → Unit {0} → ℕ → ℕ → List Note → Unit {0} → Type 0
ReporterGoes n i s step round notes later = ReporterDeeds n i (deeds_of notes)

abbrev pub PrunerGoes : ℕ → Unit {0} → ℕ → ℕ → List Note → Unit {0} → Type 0
PrunerGoes i s step round notes later = PrunerDeeds i round (deeds_of notes)

-- ---- a receiver

-- what a receiver took from a link since the section began, and the end of the link
pub record Intake : Type 0 where
  pub inlet : Inlet Sent
  pub taken : List Sent

abbrev pub intake : Inlet Sent → List Sent → Intake
intake inlet taken = record { inlet = inlet; taken = taken }

-- a round of a receiver: one that takes of each link at most so many records as one round mails, or the closing one
pub data Receipt : Type 0 where
  takes_some : Receipt
  takes_rest : Receipt

-- how many of a link's records it may take
abbrev pub MayTake : Receipt → List Sent → Type 0
MayTake takes_some items = length items ≤ MOST_MAILED
MayTake takes_rest items = Unit {0}

-- what arrives as records are taken from a link
abbrev pub arrived_of : Receipt → Inlet Sent → List Sent → List (Arrival Sent)
arrived_of takes_some inlet items = arrived inlet items
arrived_of takes_rest inlet items = arrivals inlet items

-- the end of the link then
abbrev pub inlet_then : Receipt → Inlet Sent → List Sent → Inlet Sent
inlet_then takes_some inlet items = inlet_after inlet items
inlet_then takes_rest inlet items = inlet_closed inlet items

-- the receiver of centre i among n makes a round: of the link from each other centre it takes the next records, as many
-- as it finds, and delivers what arrives of them whole by the link's fault
pub record ReceiverGoes (n i : ℕ) (s : ℕ → Intake) (step : ℕ) (receipt : Receipt) (notes : List Note) (later : ℕ → Intake) : Type 0 where
  pub items : ℕ → List Sent
  pub may : (from : ℕ) → IsCount n from → from ≢ i → MayTake receipt (items from)
  pub delivers : ReceiverDeeds n i (λ from. arrived_of receipt (s from).inlet (items from)) (deeds_of notes)
  pub then_is : (from : ℕ) → IsCount n from → from ≢ i → later from ≡ intake (inlet_then receipt (s from).inlet (items from)) ((s from).taken ++ items from)
