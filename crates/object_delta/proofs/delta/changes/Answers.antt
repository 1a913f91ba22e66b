use Rattle.std.proofs.Common.{◌∙◌}
use Rattle.object_delta.proofs.Passing.{told_behind}
use Rattle.object_delta.proofs.delta.changes.Goals as goal

pub returns-clause-told : goal.returns-clause-told
returns-clause-told c = c.in_ok-tail.ensures ∙ told_behind c.args.log.now c.args.object.now c.args.before.now c.args.at.now c.chain-cells.result.now c.passed_before-done.result c.chain-cells.ensures c.passed_before-done.ensures.first
