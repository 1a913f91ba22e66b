use Rattle.std.proofs.Common.{◌≡◌, ℕ}
use Rattle.std.specs.Prelude.{◌||◌, filter}
use Rattle.stamp_index.specs.Places.{is_numbered, is_reached}
use Rattle.op_log.specs.Places.{is_among}
use Rattle.op_log.proofs.within.note_numbers.Given as goal

abbrev pub invariant-loop-place : goal.invariant-loop-place
invariant-loop-place l = (n : ℕ) → (is_among l.numbers.keys n || is_numbered l.place-iterator n) ≡ (is_among l.fn.numbers.keys n || is_numbered (filter (is_reached l.centre l.seq) l.places.keys) n)
