-- Logs of clients as steps of a script, one after another.
use Rattle.std.specs.Prelude.{◌≡◌, ℕ, flat_map, List, [], ◌++◌}
use Rattle.list_core.specs.Members.{In}
use Rattle.dc_talk.specs.declared.log.Deed.{Deed}
use Rattle.dc_talk.specs.declared.log.Note.{Note}
use Rattle.script_core.specs.declared.script.Script.{Script}
use Rattle.script_core.specs.declared.steps.ClientStep.{ClientStep}
use Rattle.script_core.specs.declared.steps.Section.{Section}
use Rattle.script_core.specs.declared.steps.Step.{Step}
use Rattle.script_core.specs.declared.steps.Step.TheVariants.{Client}
use Rattle.script_core.specs.Deeds.{Progress, StepDeeds}
use Rattle.run_sections.specs.Orders.{deeds_of}

-- the steps of sections, in order
abbrev pub steps_in : List Section → List Step
steps_in sections = flat_map (λ section. section.steps) sections

-- the steps of a script
abbrev pub all_steps : Script → List Step
all_steps script = steps_in script.sections

-- notes that are those of steps, one after another
pub data InSteps (IsStepOf : List Deed → Type 0) : List Note → Type 0 where
  no_steps : InSteps IsStepOf []
  next_step : {notes : List Note} (mine later : List Note) → notes ≡ mine ++ later → IsStepOf (deeds_of mine) → InSteps IsStepOf later → InSteps IsStepOf notes

-- deeds of a step that a script has of this client, after it had come some way
pub record AreStepDeeds (script : Script) (client : ℕ) (deeds : List Deed) : Type 0 where
  pub come : Progress
  pub who : come.client.client ≡ client
  pub does : ClientStep
  pub theirs : In (Client client does) (all_steps script)
  pub such : StepDeeds come does deeds
