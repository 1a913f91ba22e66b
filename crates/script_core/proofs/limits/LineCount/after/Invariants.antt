use Rattle.std.proofs.Common.{◌++◌, List, ℕ, take}
use Rattle.script_core.specs.LineCounts.{Counts}
use Rattle.script_core.proofs.limits.LineCount.after.Given as goal

abbrev pub invariant-loop-byte : goal.invariant-loop-byte
invariant-loop-byte l = (seen : List ℕ) → Counts l.fn.self seen → Counts l.count (seen ++ take l.byte-index l.piece)
