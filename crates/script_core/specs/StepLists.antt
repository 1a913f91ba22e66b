-- How the steps of a section are kept.
use Rattle.std.specs.Prelude.{List, [], ◌∷◌}
use Rattle.script_core.specs.declared.steps.ClientStep.{ClientStep}
use Rattle.script_core.specs.declared.steps.ClientStep.TheVariants.{Connect, Begin, Commit, Abort, Push, Flush, Refresh, Again, Arm}
use Rattle.script_core.specs.declared.steps.Step.{Step}
use Rattle.script_core.specs.declared.steps.Step.TheVariants.{Client, Operator}
use Rattle.script_core.specs.declared.step_list.ShortCall.{ShortCall}
use Rattle.script_core.specs.declared.step_list.ShortCall.TheVariants as short
use Rattle.script_core.specs.declared.step_list.ShortStep.{ShortStep}
use Rattle.script_core.specs.declared.step_list.ShortStep.TheVariants.{Client as ShortClient, Operator as ShortOperator}
use Rattle.script_core.specs.declared.step_list.Kept.{Kept}
use Rattle.script_core.specs.declared.step_list.Kept.TheVariants.{One, Many}
use Rattle.script_core.specs.declared.step_list.StepsSeen.{StepsSeen}
use Rattle.script_core.specs.declared.step_list.StepsSeen.TheVariants.{One as OneSeen, Many as ManySeen}

-- what a client does in a step that names no object
abbrev pub call_short : ShortCall → ClientStep
call_short (short.Connect centre) = Connect centre
call_short short.Begin = Begin
call_short short.Commit = Commit
call_short short.Abort = Abort
call_short short.Push = Push
call_short short.Flush = Flush
call_short short.Refresh = Refresh
call_short (short.Again centre number) = Again centre number
call_short (short.Arm fault) = Arm fault

-- a step that names no object
abbrev pub step_short : ShortStep → Step
step_short (ShortClient client call) = Client client (call_short call)
step_short (ShortOperator step) = Operator step

-- the steps that are kept so
abbrev pub steps_kept : Kept → List Step
steps_kept (One step) = step_short step ∷ []
steps_kept (Many steps) = steps.items

-- the steps that are read so
abbrev pub steps_seen : StepsSeen → List Step
steps_seen (OneSeen step) = step ∷ []
steps_seen (ManySeen steps) = steps.now
