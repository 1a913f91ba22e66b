-- What a section of a script leaves where its actors act at once. No order is said between two actors, nor between two
-- centres.
use Rattle.std.specs.Prelude.{◌≡◌, ◌≢◌, ℕ, ◌+◌, ◌*◌, ◌==◌, ◌&&◌, true, cond, replicate, List, [], ◌∷◌, ◌++◌}
use Rattle.std.specs.List.{range_with_len}
use Rattle.list_core.specs.Members.{In}
use Rattle.dc_talk.specs.declared.sent.Sent.{Sent}
use Rattle.dc_talk.specs.declared.log.Note.{Note}
use Rattle.dc_talk.specs.Entries.{Entry}
use Rattle.script_core.specs.declared.script.Script.{Script}
use Rattle.script_core.specs.declared.taps.Show.{Show}
use Rattle.script_core.specs.declared.taps.TapState.{TapState}
use Rattle.script_core.specs.declared.steps.OperatorStep.{OperatorStep}
use Rattle.script_core.specs.declared.steps.OperatorStep.TheVariants.{Link}
use Rattle.script_core.specs.declared.steps.Section.{Section}
use Rattle.script_core.specs.declared.rounds.Role.TheVariants.{Sender, Receiver, Reporter, Pruner}
use Rattle.script_core.specs.Steps.{IsCount}
use Rattle.script_core.specs.Deeds.{Progress}
use Rattle.script_core.specs.Links.{Inlet, clean_inlet, inlet_set}
use Rattle.script_core.specs.Rounds.{worker_of, mailed}
use Rattle.script_core.specs.Taps.{first_tap}
use Rattle.run_book.specs.Parts.{exchanged, entries_by}
use Rattle.run_book.specs.Moves.{client_steps, operator_steps}
use Rattle.run_book.specs.Played.{new_progress}
use Rattle.run_sections.specs.Orders.{deeds_of, InOrder, ClientGoes, OperatorGoes, SenderGoes, ReporterGoes, PrunerGoes, Intake, intake, Receipt, takes_some, takes_rest, ReceiverGoes}
use Rattle.run_sections.specs.Taps.{shows_at, FeedGoes, tap_behind, Looks}

-- ---- between two sections

-- how far each client has come, the end of each link between two centres, and what each centre's tap shows; nothing
-- lies on a link then
pub record Between : Type 0 where
  pub come : ℕ → Progress
  pub inlets : ℕ → ℕ → Inlet Sent
  pub taps : ℕ → TapState

-- before the first section of a script
abbrev pub first_between : Script → Between
first_between script = record { come = λ client. new_progress script.n client script.cache; inlets = λ from to. clean_inlet; taps = first_tap script.n script.taps }

-- the end of a link as steps of the operator set it, one after another
abbrev pub linked : List OperatorStep → ℕ → ℕ → Inlet Sent → Inlet Sent
linked [] from to inlet = inlet
linked (Link i j fault ∷ steps) from to inlet = linked steps from to (cond (from == i && to == j) (inlet_set fault inlet) inlet)
linked (step ∷ steps) from to inlet = linked steps from to inlet

-- ---- what is done in a section

-- the rounds of a worker, by their numbers; it makes some in a phase alone
abbrev pub rounds_in : Script → Section → List ℕ
rounds_in script section = cond section.phase (range_with_len 1 script.rounds) []

-- those of a receiver, which closes behind the last one
abbrev pub receipts_in : Script → Section → List Receipt
receipts_in script section = cond section.phase (replicate script.rounds takes_some ++ takes_rest ∷ []) []

-- how many actors a script has: the operator, the clients, and four workers of each centre
abbrev pub actors_of : Script → ℕ
actors_of script = 1 + script.clients + 4 * script.n

-- what a section leaves: the notes of each actor in its order, and the entries at each centre in the order of its answers
pub record Left : Type 0 where
  pub notes : ℕ → List Note
  pub entries : ℕ → List Entry

-- what the sender of a centre put on the link to another one, by its notes
abbrev pub mail_left : Script → Left → ℕ → ℕ → List Sent
mail_left script left from to = mailed to (deeds_of (left.notes (worker_of script.clients from Sender)))

-- the receiver of centre j does its rounds in order, and takes from each other centre just what that one's sender put
pub record Receives (script : Script) (number : ℕ) (section : Section) (old : Between) (left : Left) (new : Between) (j : ℕ) : Type 0 where
  pub first : ℕ → Intake
  pub last : ℕ → Intake
  pub begins : (from : ℕ) → IsCount script.n from → from ≢ j → first from ≡ intake (linked (operator_steps section) from j (old.inlets from j)) []
  pub order : InOrder (ReceiverGoes script.n j) number 1 first (receipts_in script section) (left.notes (worker_of script.clients j Receiver)) last
  pub all : (from : ℕ) → IsCount script.n from → from ≢ j → section.phase ≡ true → (last from).taken ≡ mail_left script left from j
  pub inlets : (from : ℕ) → IsCount script.n from → from ≢ j → new.inlets from j ≡ (last from).inlet

-- the operator feeds the taps in its order; each client's looks see shows of the section, in the order of the shows; and
-- each tap shows the last one behind it
pub record PlaysTaps (script : Script) (number : ℕ) (section : Section) (old : Between) (left : Left) (new : Between) : Type 0 where
  pub shows : ℕ → List Show
  pub feeds : InOrder (FeedGoes old.taps) number 1 (shows_at old.taps) (operator_steps section) (left.notes 1) shows
  pub looks : (client : ℕ) → IsCount script.clients client → Looks old.taps shows client number (client_steps client section) (left.notes (client + 1))
  pub behind : (i : ℕ) → IsCount script.n i → new.taps i ≡ tap_behind (old.taps i) (shows i)

-- each actor does what is its part of the section of a number, one thing after another; and at each centre the entries
-- of each actor are what it exchanged there, in its order, with no others
pub record PlaysSection (script : Script) (number : ℕ) (section : Section) (old : Between) (left : Left) (new : Between) : Type 0 where
  pub clients : (client : ℕ) → IsCount script.clients client → InOrder ClientGoes number 1 (old.come client) (client_steps client section) (left.notes (client + 1)) (new.come client)
  pub operator : InOrder (OperatorGoes script.n) number 1 tt (operator_steps section) (left.notes 1) tt
  pub senders : (i : ℕ) → IsCount script.n i → InOrder (SenderGoes script.n i) number 1 tt (rounds_in script section) (left.notes (worker_of script.clients i Sender)) tt
  pub receivers : (j : ℕ) → IsCount script.n j → Receives script number section old left new j
  pub reporters : (i : ℕ) → IsCount script.n i → InOrder (ReporterGoes script.n i) number 1 tt (rounds_in script section) (left.notes (worker_of script.clients i Reporter)) tt
  pub pruners : (i : ℕ) → IsCount script.n i → InOrder (PrunerGoes i) number 1 tt (rounds_in script section) (left.notes (worker_of script.clients i Pruner)) tt
  pub taps : PlaysTaps script number section old left new
  pub callers : (i : ℕ) (entry : Entry) → IsCount script.n i → In entry (left.entries i) → IsCount (actors_of script) entry.caller
  pub paired : (i a : ℕ) → IsCount script.n i → IsCount (actors_of script) a → entries_by a (left.entries i) ≡ exchanged i (left.notes a)
