use Rattle.std.proofs.Common.{◌≡◌, ◌+◌, ◌++◌, drop}
use Rattle.dup_guard.specs.Parts.{noted_from}
use Rattle.dup_guard.proofs.guard.parts_of.Given as goal

abbrev pub invariant-loop-place : goal.invariant-loop-place
invariant-loop-place l = l.parts.items ++ noted_from (l.place + 1) (drop l.place l.lasts) ≡ noted_from 1 l.lasts
