use Rattle.std.proofs.Common.{take}
use Rattle.print_text.specs.Parts.{Adds}
use Rattle.print_text.specs.Text.{lines_in}
use Rattle.print_text.proofs.text.add_logs.Given as goal

abbrev pub invariant-loop-log : goal.invariant-loop-log
invariant-loop-log l = Adds (lines_in (take l.log-index l.logs)) l.fn.parts.items l.parts.items
