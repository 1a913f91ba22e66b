-- What the operator and the workers of a centre do in a phase.
use Rattle.std.specs.Prelude.{◌≡◌, ◌≢◌, ℕ, length, All, List, ◌++◌}
use Rattle.std.specs.List.{range_with_len}
use Rattle.dc_talk.specs.declared.sent.Sent.{Sent}
use Rattle.dc_talk.specs.declared.log.Note.{Note}
use Rattle.dc_talk.specs.Acting.{Acting}
use Rattle.link_frames.specs.Frames.{framed}
use Rattle.mail_link.specs.Ends.{GiverView, TakerView}
use Rattle.script_core.specs.declared.taps.Show.{Show}
use Rattle.script_core.specs.declared.taps.TapState.{TapState}
use Rattle.script_core.specs.declared.steps.OperatorStep.{OperatorStep}
use Rattle.script_core.specs.Steps.{IsCount}
use Rattle.script_core.specs.Links.{Inlet}
use Rattle.script_core.specs.Rounds.{mailed}
use Rattle.dc_links.specs.Links.{put_to, put_between, taken_from, inlet_from}
use Rattle.run_book.specs.Played.{IsAt}
use Rattle.run_table.specs.Taps.{taps_of}
use Rattle.run_sections.specs.Taps.{FeedGoes}
use Rattle.run_sections.specs.Orders.{deeds_of, OperatorGoes, SenderGoes, ReporterGoes, PrunerGoes, Intake, intake, Receipt, takes_rest, ReceiverGoes}
use Rattle.phase_actors.specs.Playing.{Acted, Plays, seen_by}
use Rattle.phase_actors.specs.declared.senders.SenderEnd.{SenderEnd}
use Rattle.phase_actors.specs.declared.receivers.ReceiverEnd.{ReceiverEnd}

-- ---- through a door

-- the operator of n centres takes a step, and feeds a tap by it where it is a feed
pub record OrderGoes (taps : List TapState) (n : ℕ) (shows : ℕ → List Show) (step : ℕ) (does : OperatorStep) (notes : List Note) (later : ℕ → List Show) : Type 0 where
  pub orders : OperatorGoes n tt step does notes tt
  pub feeds : FeedGoes (taps_of taps) shows step does notes later

-- it takes these steps, while the taps have some shows at first and others at the end
abbrev pub PlaysOperator : List TapState → ℕ → ℕ → (ℕ → List Show) → List OperatorStep → Acting → Acting → (ℕ → List Show) → Type 0
PlaysOperator taps n section shows steps old new later = Plays (OrderGoes taps n) section shows steps old new later

-- the reporter and the pruner of centre i make so many rounds
abbrev pub PlaysReporter : ℕ → ℕ → ℕ → ℕ → Acting → Acting → Type 0
PlaysReporter n i section rounds old new = Plays (ReporterGoes n i) section tt (range_with_len 1 rounds) old new tt

abbrev pub PlaysPruner : ℕ → ℕ → ℕ → Acting → Acting → Type 0
PlaysPruner i section rounds old new = Plays (PrunerGoes i) section tt (range_with_len 1 rounds) old new tt

-- the ends of the links at which the sender of a centre puts, beside its door and its log
pub record Sending : Type 0 where
  pub acting : Acting
  pub givers : List (GiverView Sent)

-- the sender of centre i makes so many rounds, and puts on each link what its deeds mail there, so far as it has frames
pub record PlaysSender (n i section rounds : ℕ) (old new : Sending) : Type 0 where
  pub plays : Plays (SenderGoes n i) section tt (range_with_len 1 rounds) old.acting new.acting tt
  pub puts : (to : ℕ) → IsCount n to → to ≢ i → put_to new.givers to ≡ put_to old.givers to ++ framed (mailed to (deeds_of plays.mine))

-- the ends of the links at which the receiver of a centre takes, beside its door and its log
pub record Receiving : Type 0 where
  pub acting : Acting
  pub takers : List (TakerView Sent)
  pub inlets : List (Inlet Sent)

-- what it took of each link, and its end
abbrev pub intakes_of : Receiving → ℕ → Intake
intakes_of r from = intake (inlet_from r.inlets from) (taken_from r.takers from)

-- the receiver of centre i makes rounds
pub record PlaysReceiver (n i section : ℕ) (receipts : List Receipt) (old new : Receiving) : Type 0 where
  pub last : ℕ → Intake
  pub plays : Plays (ReceiverGoes n i) section (intakes_of old) receipts old.acting new.acting last
  pub ends : (from : ℕ) → IsCount n from → from ≢ i → last from ≡ intakes_of new from

-- ---- over hosts

-- a sender with its caller
abbrev pub sending : SenderEnd → Sending
sending end = record { acting = seen_by end.caller; givers = end.givers.items }

-- a receiver with its caller
abbrev pub receiving : ReceiverEnd → Receiving
receiving end = record { acting = seen_by end.caller; takers = end.takers.items; inlets = end.inlets.items }

-- the receiver of centre i makes its closing round in a step of a section: it takes of each link all that was put there,
-- as much by number as its sender's end says
pub record Closes (n i section step : ℕ) (givers : List (List (GiverView Sent))) (old new : Receiving) : Type 0 where
  pub mine : List Note
  pub acted : Acted old.acting new.acting mine
  pub at : All (IsAt section step) mine
  pub goes : ReceiverGoes n i (intakes_of old) step takes_rest mine (intakes_of new)
  pub all : (from : ℕ) → IsCount n from → from ≢ i → length (taken_from new.takers from) ≡ length (put_between givers from i)
