use Rattle.std.proofs.Common.{◌≡◌, ◌≤◌, ◌-◌, ℕ, length, get_or, take}
use Rattle.state_codec.specs.Reading.{with_front, times_at}
use Rattle.parts_codec.specs.Reading.{half_at}
use Rattle.parts_codec.proofs.vectors.entries_at.Given as goal

abbrev pub invariant-loop-place : goal.invariant-loop-place
invariant-loop-place l = record {
  wide : length l.vector ≡ l.width;
  behind : (place : ℕ) → l.place ≤ place → get_or l.vector place 0 ≡ 0;
  so_far : with_front (take l.place l.vector) (times_at half_at (l.width - l.place) l.rest) ≡ times_at half_at l.width l.bytes;
}
