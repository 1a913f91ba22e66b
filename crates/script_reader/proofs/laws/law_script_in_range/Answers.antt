use Rattle.std.proofs.Common.{sym}
use Rattle.script_reader.proofs.ScriptRanges.{script_in_range}
use Rattle.script_reader.proofs.laws.law_script_in_range.Goals as goal

pub returns : goal.returns
returns c = λ bytes script is. script_in_range bytes script (sym is)
