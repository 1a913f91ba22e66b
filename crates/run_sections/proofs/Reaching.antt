-- The asks that are noted in a section go to centres that there are.
use Rattle.std.proofs.Common.{◌≡◌, ℕ, ◌+◌, ⊎_elim, List, Some, sym, subst}
use Rattle.std.specs.Prelude.{All, ◌==◌}
use Rattle.std.proofs.lemmas.Option.{none-some, same_Some}
use Rattle.list_core.specs.Members.{In}
use Rattle.list_core.proofs.Choices.{when_some}
use Rattle.list_core.proofs.Members.{All-In, In-All, In_from_map}
use Rattle.list_core.proofs.Passing.{In_from_filter_map}
use Rattle.dc_talk.specs.declared.log.Deed.{Deed}
use Rattle.dc_talk.specs.declared.log.Note.{Note}
use Rattle.dc_talk.specs.Clients.{new_client}
use Rattle.dc_talk.specs.Entries.{Entry}
use Rattle.dc_talk.specs.Rule.{client_after}
use Rattle.script_core.specs.declared.script.Script.{Script}
use Rattle.script_core.specs.declared.steps.ClientStep.{ClientStep}
use Rattle.script_core.specs.declared.steps.OperatorStep.{OperatorStep}
use Rattle.script_core.specs.declared.steps.Step.{Step}
use Rattle.script_core.specs.declared.steps.Step.TheVariants.{Client, Operator}
use Rattle.script_core.specs.declared.steps.Section.{Section}
use Rattle.script_core.specs.declared.rounds.Role.{Role}
use Rattle.script_core.specs.declared.rounds.Role.TheVariants.{Sender, Receiver, Reporter, Pruner}
use Rattle.script_core.specs.Rows.{IsLine, IsPhase, IsInPhase, IsSection}
use Rattle.script_core.specs.Rounds.{worker_of}
use Rattle.script_core.specs.Scripts.{header_of}
use Rattle.script_core.specs.Steps.{IsCount, IsStep, IsOperatorStep, IsStepOf}
use Rattle.run_book.specs.Happenings.{GoesToOneOf, IsLinkWithin}
use Rattle.run_book.specs.Moves.{client_step, operator_step, client_steps, operator_steps}
use Rattle.run_book.proofs.Happenings.OperatorSteps.{order_go}
use Rattle.run_book.proofs.Happenings.WorkerRounds.{sender_go, receiver_go, reporter_go, pruner_go}
use Rattle.run_sections.specs.Apart.{AreApart, StandsAt}
use Rattle.run_sections.specs.Orders.{deeds_of, OperatorGoes, SenderGoes, ReceiverGoes, ReporterGoes, PrunerGoes, arrived_of}
use Rattle.run_sections.specs.Sections.{actors_of, Between, Left, PlaysSection, rounds_in, receipts_in}
use Rattle.run_sections.proofs.Actors.{by_actor, client_acts}
use Rattle.run_sections.proofs.InTurn.{order_each, deed_holds, notes_within, client_go}

-- ---- the steps of a section

module _ (script : Script) (section : Section) (sound : IsSection (header_of script) section) where
  -- each step is one that it may have
  step_sound : (step : Step) → In step section.steps → IsStepOf (header_of script) step
  step_sound step there = ⊎_elim
      (λ (line : IsLine (header_of script) section). ⊎_elim
      (λ same. subst (IsStepOf (header_of script)) (sym same) line.2)
      (λ none. absurd none)
      (subst (λ (s : Section). In step s.steps) line.1 there))
      (λ (phase : IsPhase (header_of script) section). (All-In (λ step. IsStepOf (header_of script) step × IsInPhase step) section.steps step phase.steps there).0)
      sound

  -- each step of a client
  pub client_sound : (client : ℕ) (does : ClientStep) → In does (client_steps client section) → IsStep script.n does
  client_sound client does there =
      let from = In_from_filter_map (client_step client) section.steps does there in
      go from.0 (step_sound from.0 from.1) from.2
    where
      go : (step : Step) → IsStepOf (header_of script) step → client_step client step ≡ Some does → IsStep script.n does
      go (Client other step) is gives = subst (IsStep script.n) (sym (when_some (other == client) step does gives)) is.1
      go (Operator step) is gives = absurd (none-some does gives)

  -- each step of the operator
  pub operator_sound : (does : OperatorStep) → In does (operator_steps section) → IsOperatorStep script.n does
  operator_sound does there =
      let from = In_from_filter_map operator_step section.steps does there in
      go from.0 (step_sound from.0 from.1) from.2
    where
      go : (step : Step) → IsStepOf (header_of script) step → operator_step step ≡ Some does → IsOperatorStep script.n does
      go (Client client step) is gives = absurd (none-some does gives)
      go (Operator step) is gives = subst (IsOperatorStep script.n) (same_Some step does gives) is

-- ---- the links of clients

-- each deed of notes is of one of them
all_deeds : (P : Deed → Type 0) (notes : List Note) → ((note : Note) → In note notes → P note.deed) → All P (deeds_of notes)
all_deeds P notes each = In-All P (deeds_of notes) (λ deed there.
    let from = In_from_map (λ (note : Note). note.deed) notes deed there in
    subst P (sym from.2) (each from.0 from.1))

-- the link of a client is to a centre that there is
pub link_there : (script : Script) (notes : ℕ → List Note) (trails : ℕ → List Entry) → AreApart script notes trails → (client : ℕ) → IsCount script.clients client → IsLinkWithin script.n (client_after script.n client script.cache (notes (client + 1))).link
link_there script notes trails apart client range =
    notes_within script.n (new_client script.n client script.cache) (notes (client + 1))
    (all_deeds (GoesToOneOf script.n) (notes (client + 1)) (λ note there. apart.reach (client + 1) note (client_acts script client range) there)) tt

-- ---- what is noted in a section

module _ (script : Script) (number : ℕ) (section : Section) (old : Between) (left : Left) (new : Between) (notes : ℕ → List Note) (trails : ℕ → List Entry) (sound : IsSection (header_of script) section) (apart : AreApart script notes trails) (stands : StandsAt script notes old) (plays : PlaysSection script number section old left new) where
  -- the asks of an actor go to centres that there are
  abbrev Reaches : ℕ → Type 0
  Reaches a = (note : Note) → In note (left.notes a) → GoesToOneOf script.n note.deed

  -- those of a client
  client_reaches : (client : ℕ) → IsCount script.clients client → Reaches (client + 1)
  client_reaches client range = client_go script.n number 1 (old.come client) (new.come client) (client_steps client section) (left.notes (client + 1)) (client_sound script section sound client)
      (subst (λ s. IsLinkWithin script.n s.link) (sym (stands.clients client range)) (link_there script notes trails apart client range))
      (plays.clients client range)

  -- those of the operator
  operator_reaches : Reaches 1
  operator_reaches = order_each (OperatorGoes script.n) number (λ note. GoesToOneOf script.n note.deed) 1 tt tt (operator_steps section) (left.notes 1)
      (λ s next step m mine here among does note there. deed_holds (GoesToOneOf script.n) mine note (order_go script.n m (deeds_of mine) (operator_sound script section sound m here) does) there) plays.operator

  -- those of a worker
  worker_reaches : (i : ℕ) (role : Role) → IsCount script.n i → Reaches (worker_of script.clients i role)
  worker_reaches i Sender range = order_each (SenderGoes script.n i) number (λ note. GoesToOneOf script.n note.deed) 1 tt tt (rounds_in script section) (left.notes (worker_of script.clients i Sender))
      (λ s next step m mine here among does note there. deed_holds (GoesToOneOf script.n) mine note (sender_go script.n i (deeds_of mine) range does) there) (plays.senders i range)
  worker_reaches i Receiver range =
      let r = plays.receivers i range in
      order_each (ReceiverGoes script.n i) number (λ note. GoesToOneOf script.n note.deed) 1 _ r.last (receipts_in script section) (left.notes (worker_of script.clients i Receiver))
      (λ s next step m mine here among does note there. deed_holds (GoesToOneOf script.n) mine note (receiver_go script.n i (λ from. arrived_of m (s from).inlet (does.items from)) (deeds_of mine) range does.delivers) there) r.order
  worker_reaches i Reporter range = order_each (ReporterGoes script.n i) number (λ note. GoesToOneOf script.n note.deed) 1 tt tt (rounds_in script section) (left.notes (worker_of script.clients i Reporter))
      (λ s next step m mine here among does note there. deed_holds (GoesToOneOf script.n) mine note (reporter_go script.n i (deeds_of mine) range does) there) (plays.reporters i range)
  worker_reaches i Pruner range = order_each (PrunerGoes i) number (λ note. GoesToOneOf script.n note.deed) 1 tt tt (rounds_in script section) (left.notes (worker_of script.clients i Pruner))
      (λ s next step m mine here among does note there. deed_holds (GoesToOneOf script.n) mine note (pruner_go script.n i m (deeds_of mine) range does) there) (plays.pruners i range)

  -- those of each actor
  pub left_reaches : (a : ℕ) → IsCount (actors_of script) a → Reaches a
  left_reaches a range = by_actor script Reaches operator_reaches client_reaches worker_reaches a range
