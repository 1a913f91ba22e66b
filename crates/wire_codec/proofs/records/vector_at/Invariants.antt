use Rattle.std.proofs.Common.{◌≡◌, ◌≤◌, ◌-◌, ℕ, length, get_or, take}
use Rattle.wire_codec.specs.Reading.{with_front, entries_at}
use Rattle.wire_codec.proofs.records.vector_at.Given as goal

abbrev pub invariant-loop-place : goal.invariant-loop-place
invariant-loop-place l = record {
  wide : length l.vector ≡ l.width;
  behind : (place : ℕ) → l.place ≤ place → get_or l.vector place 0 ≡ 0;
  so_far : with_front (take l.place l.vector) (entries_at (l.width - l.place) l.rest) ≡ entries_at l.width l.bytes;
}
