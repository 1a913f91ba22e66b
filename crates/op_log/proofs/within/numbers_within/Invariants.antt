use Rattle.std.proofs.Common.{◌≡◌, ◌<◌, ℕ, true}
use Rattle.stamp_index.specs.Places.{is_numbered, reached_of}
use Rattle.op_log.specs.Places.{is_among}
use Rattle.op_log.proofs.within.numbers_within.Given as goal

abbrev pub invariant-loop-centre : goal.invariant-loop-centre
invariant-loop-centre l = record {
  there : (n : ℕ) → is_among l.numbers.keys n ≡ true → (e : ℕ) × (e < l.centre) × (is_numbered (reached_of l.base e l.places.keys) n ≡ true);
  all : (n e : ℕ) → e < l.centre → is_numbered (reached_of l.base e l.places.keys) n ≡ true → is_among l.numbers.keys n ≡ true;
}
