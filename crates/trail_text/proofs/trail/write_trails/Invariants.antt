use Rattle.std.proofs.Common.{◌≡◌, ◌++◌}
use Rattle.std.specs.Prelude.{flat_map}
use Rattle.std.specs.List.{range_with_len}
use Rattle.run_book.specs.Parts.{trail_of}
use Rattle.trail_text.specs.Trails.{entries_text}
use Rattle.trail_text.proofs.trail.write_trails.Given as goal

abbrev pub invariant-loop-before : goal.invariant-loop-before
invariant-loop-before l = l.text.items ≡ l.fn.text.items ++ flat_map (λ centre. entries_text centre (trail_of l.book centre)) (range_with_len 1 l.before)
