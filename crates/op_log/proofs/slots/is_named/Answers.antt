use Rattle.std.proofs.Common.{sym, ◌∙◌}
use Rattle.op_log.proofs.Numbers.{has_dot_some, has_dot_none}
use Rattle.op_log.proofs.slots.is_named.Goals as goal

pub returns-in-Some : goal.returns-in-Some
returns-in-Some c = c.has.ensures ∙ has_dot_some c.args.dot.now c.args.number _ _ c.requires.keyed c.requires.rises c.requires.one (sym c.in-Some.ensures.value)

pub returns-in-None : goal.returns-in-None
returns-in-None c = has_dot_none c.args.dot.now c.args.number _ c.requires.keyed c.requires.one (sym c.in-None.ensures.value)
