use Rattle.std.proofs.Common.{◌≡◌, map, take}
use Rattle.load_text.specs.LastReads.{later_values}
use Rattle.load_text.proofs.reads.values_in.Given as goal

abbrev pub invariant-loop-log : goal.invariant-loop-log
invariant-loop-log l = l.values ≡ map (later_values l.last) (take l.log-index l.logs)
