use Rattle.std.specs.Map.{values_of}
use Rattle.std.proofs.Common.{rules}
use Rattle.std.proofs.lemmas.Fn.{filter_same}
use Rattle.op_log.specs.Tables.{stays}
use Rattle.op_log.proofs.sweep.leave.Goals as goal

pub returns-clause-there : goal.returns-clause-there
returns-clause-there c = filter_same _ (stays c.args.base.now (values_of c.args.slots.now.entries)) _ (λ x b q called. search rules) _ _ c.retain.ensures.there
