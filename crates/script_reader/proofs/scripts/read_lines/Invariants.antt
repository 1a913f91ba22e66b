use Rattle.std.proofs.Common.{◌≡◌, ◌≤◌, ◌+◌, length}
use Rattle.script_core.specs.Lines.{lines_of}
use Rattle.script_core.specs.declared.limits.TheConstants.{MAX_LINES}
use Rattle.script_reader.specs.Scripts.{script_read, lines_read}
use Rattle.script_reader.proofs.scripts.read_lines.Given as goal

abbrev pub invariant-lines : goal.invariant-lines
invariant-lines l = record {
  read : script_read l.bytes ≡ lines_read l.number l.reading (lines_of l.rest);
  few : l.number ≤ MAX_LINES + 1;
}

abbrev pub decreases-lines : goal.decreases-lines
decreases-lines l = length l.rest
