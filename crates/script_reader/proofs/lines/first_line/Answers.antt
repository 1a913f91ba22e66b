use Rattle.std.proofs.Common.{◌<◌, length, ap, ◌∙◌, arith}
use Rattle.script_core.specs.Lines.{lines_of}
use Rattle.script_core.proofs.Cuts.{first_line, only_line}
use Rattle.script_reader.proofs.lines.first_line.Goals as goal

pub returns-in-Some-clause-lines : goal.returns-in-Some-clause-lines
returns-in-Some-clause-lines c = ap lines_of c.in-Some.ensures.found.0 ∙ first_line _ _ c.in-Some.ensures.found.1

pub returns-in-None-clause-lines : goal.returns-in-None-clause-lines
returns-in-None-clause-lines c = only_line c.args.text.now c.in-None.ensures.none (let some : 0 < length c.args.text.now = (let test = c.is_empty.ensures in let not_empty = c.if-is_empty.false in grind arith) in some)
