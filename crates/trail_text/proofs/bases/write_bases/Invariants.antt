use Rattle.std.proofs.Common.{◌≡◌, ◌++◌, take}
use Rattle.trail_text.specs.Trails.{bases_text}
use Rattle.trail_text.proofs.bases.write_bases.Given as goal

abbrev pub invariant-loop-before : goal.invariant-loop-before
invariant-loop-before l = l.text.items ≡ l.fn.text.items ++ bases_text l.client (take l.before l.bases)
