use Rattle.std.proofs.Common.{sym, subst}
use Rattle.std.proofs.lemmas.Result.{IfOk-weaker}
use Rattle.op_log.specs.RestParts.{AreParts}
use Rattle.op_log.proofs.RestParts.{log_parts}
use Rattle.op_log.proofs.log.Log.parts.Goals as goal

pub returns-clause-parts : goal.returns-clause-parts
returns-clause-parts c = IfOk-weaker c.parts_of.result _ _ (λ parts told. subst AreParts (sym told) (log_parts _ _ _ _ _ c.self.invariant)) c.parts_of.ensures
