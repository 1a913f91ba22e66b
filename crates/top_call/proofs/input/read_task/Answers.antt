use Rattle.top_call.proofs.Owing.{task_left, task_end}
use Rattle.top_call.proofs.input.read_task.Goals as goal

pub returns-clause-task : goal.returns-clause-task
returns-clause-task g c = task_left _ _ c.in_ok-input.input.bytes.items c.in_ok-input.input.past_limits c.in_ok-task.task c.in_ok-input.ensures.taken c.in_ok-input.ensures.limits c.in_ok-input.ensures.whole c.in_ok-task.ensures

pub returns-clause-end : goal.returns-clause-end
returns-clause-end g c = task_end _ c.in_ok-input.input.bytes.items c.in_ok-input.input.past_limits c.in_ok-task.task c.in_ok-input.ensures.limits c.in_ok-input.ensures.whole c.in_ok-task.ensures
