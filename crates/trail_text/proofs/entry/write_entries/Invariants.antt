use Rattle.std.proofs.Common.{◌≡◌, ◌++◌, take}
use Rattle.trail_text.specs.Trails.{entries_text}
use Rattle.trail_text.proofs.entry.write_entries.Given as goal

abbrev pub invariant-loop-before : goal.invariant-loop-before
invariant-loop-before l = l.text.items ≡ l.fn.text.items ++ entries_text l.centre (take l.before l.entries)
