use Rattle.std.proofs.Common.{arith}
use Rattle.script_core.specs.Lines.{lines_of}
use Rattle.script_reader.specs.Scripts.{script_read}
use Rattle.script_reader.proofs.Onward.{line_in_time, read_on}
use Rattle.script_reader.proofs.scripts.read_lines.Goals as goal

pub lines-preserved : goal.lines-preserved
lines-preserved c = record {
  read = read_on (script_read c.args.bytes.now) c.lines.number c.lines.reading c.take_line.new.reading c.in-Some.line.now (lines_of c.lines.rest.now) (lines_of c.in-Some.more.now) c.lines.invariant.read c.in-Some.ensures.lines c.in-Ok.ensures.taken;
  few = let in_time = line_in_time c.lines.reading c.take_line.new.reading c.lines.number c.in-Some.line.now c.in-Ok.ensures.taken in omega arith;
}
