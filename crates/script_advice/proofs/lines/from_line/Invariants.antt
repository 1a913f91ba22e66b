use Rattle.std.proofs.Common.{◌≡◌, drop}
use Rattle.script_core.specs.Lines.{lines_of}
use Rattle.script_advice.proofs.lines.from_line.Given as goal

abbrev pub invariant-loop-line : goal.invariant-loop-line
invariant-loop-line l = lines_of l.rest ≡ drop l._line (lines_of l.input)
