use Rattle.std.proofs.Common.{sym, ◌∙◌}
use Rattle.std.specs.Prelude.{◌&&◌}
use Rattle.ids_core.specs.Ids.{same_dot}
use Rattle.op_log.specs.Logs.{is_inside}
use Rattle.op_log.proofs.Numbers.{passes_some, passes_none}
use Rattle.op_log.proofs.slots.is_own_inside.Goals as goal

pub returns-in-Some : goal.returns-in-Some
returns-in-Some c = c.has_inside.ensures ∙ passes_some (λ x. same_dot x.tx.dot c.args.dot.now && is_inside c.args.at.now x) c.args.number _ _ c.requires.keyed c.requires.rises (sym c.in-Some.ensures.value)

pub returns-in-None : goal.returns-in-None
returns-in-None c = passes_none (λ x. same_dot x.tx.dot c.args.dot.now && is_inside c.args.at.now x) c.args.number _ c.requires.keyed c.requires.rises (sym c.in-None.ensures.value)
