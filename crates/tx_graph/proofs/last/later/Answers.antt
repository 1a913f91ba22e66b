use Rattle.std.proofs.Common.{sym, ◌∙◌}
use Rattle.tx_graph.proofs.LastWords.{last_takes, last_keeps}
use Rattle.tx_graph.proofs.last.later.Goals as goal

pub returns-then-is_later : goal.returns-then-is_later
returns-then-is_later c = λ before is. last_takes before c.args.last (c.args.mark.now, c.args.word.now) is (sym c.is_later.ensures ∙ c.if-is_later.true)

pub returns-else-is_later : goal.returns-else-is_later
returns-else-is_later c = λ before is. last_keeps before c.args.last (c.args.mark.now, c.args.word.now) is (sym c.is_later.ensures ∙ c.if-is_later.false)
