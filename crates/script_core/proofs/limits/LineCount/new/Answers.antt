use Rattle.script_core.proofs.CountedLines.{lines_none}
use Rattle.script_core.proofs.limits.LineCount.new.Goals as goal

pub returns : goal.returns
returns c = lines_none
