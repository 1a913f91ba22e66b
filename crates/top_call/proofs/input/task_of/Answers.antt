use Rattle.std.proofs.Common.{sym, subst}
use Rattle.top_call.specs.Runs.{IsAsked, IsRead}
use Rattle.top_call.proofs.Owing.{task_asked}
use Rattle.top_call.proofs.input.task_of.Goals as goal

pub returns-in_ok-task-in-Run-clause-task : goal.returns-in_ok-task-in-Run-clause-task
returns-in_ok-task-in-Run-clause-task g c = task_asked c.args.form (g.S.Source.left c.args.source.now) c.in_ok-task-in-Run.task (subst IsRead (sym c.in-Run.is) tt) c.in_ok-task-in-Run.ensures.task

pub returns-in_ok-script-in-Load-clause-task : goal.returns-in_ok-script-in-Load-clause-task
returns-in_ok-script-in-Load-clause-task g c = (c.in_ok-script-in-Load.ensures.range, subst (λ form. IsAsked form (g.S.Source.left c.args.source.now) c.in_ok-script-in-Load.script) (sym c.in-Load.is) c.in_ok-script-in-Load.ensures.script)
