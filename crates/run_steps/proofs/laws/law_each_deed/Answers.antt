use Rattle.run_steps.specs.Calls.{IsDeedOf}
use Rattle.run_steps.proofs.EachDeed.{step_each}
use Rattle.run_steps.proofs.laws.law_each_deed.Goals as goal

pub returns : goal.returns
returns c = λ come does deeds step. step_each (IsDeedOf does) (λ i ask fate. tt) (λ line plain. tt) come does deeds (λ call outcome is. is) (λ centre object seen is. tt) step
