-- The steps of a phase, and what the session rule allows in a step.
use Rattle.std.proofs.Common.{◌≡◌, ℕ, Bool, true, false, List, [], ◌∷◌, ◌++◌, map, Some, refl, subst}
use Rattle.std.specs.Prelude.{◌==◌, slice_get}
use Rattle.std.proofs.lemmas.Bool.{eqb-true}
use Rattle.std.proofs.lemmas.Option.{none-some, same_Some}
use Rattle.list_core.specs.Choices.{when}
use Rattle.list_core.specs.Members.{In}
use Rattle.list_core.proofs.Gets.{get_In, In_get, all_get}
use Rattle.list_core.proofs.Passing.{In_from_filter_map}
use Rattle.dc_talk.specs.declared.log.Deed.{Deed}
use Rattle.dc_talk.specs.declared.log.Note.{Note}
use Rattle.dc_talk.specs.Logs.{Logged, marked, noted}
use Rattle.dc_talk.specs.Clients.{Client}
use Rattle.dc_talk.specs.Rule.{after}
use Rattle.script_core.specs.declared.script.Header.{Header}
use Rattle.script_core.specs.declared.steps.ClientStep.{ClientStep}
use Rattle.script_core.specs.declared.steps.OperatorStep.{OperatorStep}
use Rattle.script_core.specs.declared.steps.Step.{Step}
use Rattle.script_core.specs.declared.steps.Step.TheVariants.{Client as ClientOf, Operator}
use Rattle.script_core.specs.declared.steps.Section.{Section}
use Rattle.script_core.specs.Rows.{IsPhase, IsInPhase}
use Rattle.script_core.specs.Steps.{IsCount, IsStep, IsOperatorStep, IsStepOf}
use Rattle.client_stub.specs.Playing.{AllowsAll}
use Rattle.run_book.specs.Moves.{client_step, operator_step, client_steps, operator_steps}
use Rattle.run_book.specs.Happenings.{ClientDoes}

-- ---- the steps of a phase

module _ (header : Header) (section : Section) (phase : IsPhase header section) where
  -- a step of it
  step_in : (step : Step) → In step section.steps → IsStepOf header step
  step_in step has = let at = In_get section.steps step has in (all_get (λ step. IsStepOf header step × IsInPhase step) section.steps at.0 step phase.steps at.1).0

  -- of a client
  pub client_step_in : (client place : ℕ) (does : ClientStep) → slice_get (client_steps client section) place ≡ Some does → IsCount header.clients client × IsStep header.n does
  client_step_in client place does there =
      let from = In_from_filter_map (client_step client) section.steps does (get_In (client_steps client section) place does there) in
      its from.0 (step_in from.0 from.1) from.2
    where
      its : (step : Step) → IsStepOf header step → client_step client step ≡ Some does → IsCount header.clients client × IsStep header.n does
      its (Operator step) is gives = absurd (none-some does gives)
      its (ClientOf other step) is gives =
          let both = chosen (other == client) step does gives in
          (subst (IsCount header.clients) (eqb-true other client both.0) is.0, subst (IsStep header.n) both.1 is.1)
        where
          chosen : (test : Bool) (step does : ClientStep) → when test step ≡ Some does → (test ≡ true) × (step ≡ does)
          chosen true step does is = (refl, same_Some step does is)
          chosen false step does is = absurd (none-some does is)

  -- of the operator
  pub operator_step_in : (place : ℕ) (does : OperatorStep) → slice_get (operator_steps section) place ≡ Some does → IsOperatorStep header.n does
  operator_step_in place does there =
      let from = In_from_filter_map operator_step section.steps does (get_In (operator_steps section) place does there) in
      its from.0 (step_in from.0 from.1) from.2
    where
      its : (step : Step) → IsStepOf header step → operator_step step ≡ Some does → IsOperatorStep header.n does
      its (ClientOf client step) is gives = absurd (none-some does gives)
      its (Operator step) is gives = subst (IsOperatorStep header.n) (same_Some step does gives) is

-- ---- the session rule

-- deeds that the session rule allows a client in turn, as notes of a section and step
pub allows_does : (section step : ℕ) (s : Client) (log : Logged) (deeds : List Deed) → log.section ≡ section → log.step ≡ step → AllowsAll s log deeds → ClientDoes s log.notes (map (marked section step) deeds)
allows_does section step s log [] here at allowed = tt
allows_does section step s log (deed ∷ deeds) here at allowed =
    let note : marked log.section log.step deed ≡ marked section step deed = λ i. marked (here i) (at i) deed in (
      allowed.0,
      subst (λ (note : Note). ClientDoes (after s deed) (log.notes ++ note ∷ []) (map (marked section step) deeds)) note (allows_does section step (after s deed) (noted log deed) deeds here at allowed.1),
    )
