use Rattle.std.proofs.Common.{◌∙◌, ap}
use Rattle.script_core.specs.Lines.{lines_of}
use Rattle.script_core.proofs.Cuts.{first_line}
use Rattle.script_reader.proofs.Plain.{all_plain, no_feed}
use Rattle.script_reader.proofs.lines.next_line.Goals as goal

pub returns-in-Some-clause-lines : goal.returns-in-Some-clause-lines
returns-in-Some-clause-lines c = ap lines_of c.in-Some.ensures.line ∙ first_line c.in-Some.line.now c.in-Some.more.now (no_feed c.in-Some.line.now c.in-Some.ensures.shown)

pub returns-in-Some-clause-plain : goal.returns-in-Some-clause-plain
returns-in-Some-clause-plain c = all_plain c.in-Some.line.now c.in-Some.ensures.shown
