use Rattle.std.proofs.Common.{sym, ◌∙◌}
use Rattle.op_log.specs.Logs.{is_inside}
use Rattle.op_log.proofs.Numbers.{passes_some, passes_none}
use Rattle.op_log.proofs.slots.is_inside_at.Goals as goal

pub returns-in-Some : goal.returns-in-Some
returns-in-Some c = c.is_inside.ensures ∙ passes_some (is_inside c.args.at.now) c.args.number _ _ c.requires.keyed c.requires.rises (sym c.in-Some.ensures.value)

pub returns-in-None : goal.returns-in-None
returns-in-None c = passes_none (is_inside c.args.at.now) c.args.number _ c.requires.keyed c.requires.rises (sym c.in-None.ensures.value)
