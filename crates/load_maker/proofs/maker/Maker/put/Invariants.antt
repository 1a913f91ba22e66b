use Rattle.std.proofs.Common.{◌≡◌, ◌++◌, take}
use Rattle.load_maker.specs.Lines.{lines_text}
use Rattle.load_maker.proofs.maker.Maker.put.Given as goal

abbrev pub invariant-loop-line : goal.invariant-loop-line
invariant-loop-line l = (l.self.text.items ≡ l.fn.self.text.items ++ lines_text (take l.line-index l.lines)) × (l.self.draws ≡ l.fn.self.draws)
