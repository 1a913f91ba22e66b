use Rattle.std.proofs.Common.{inr, refl, subst}
use Rattle.op_log.specs.Tables.{Lacks}
use Rattle.op_log.proofs.sweep.sweep_chain.Goals as goal

pub returns-else-has_number-clause-there : goal.returns-else-has_number-clause-there
returns-else-has_number-clause-there c = inr (refl, subst (Lacks c.args.number) c.get.ensures c.if-has_number.ensures)
