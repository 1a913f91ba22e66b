-- Where the sizes of the deltas are small together, no sum wraps.
use Rattle.std.proofs.Common.{◌≡◌, ◌≤◌, ◌<◌, ◌^◌, ◌+◌, ℤ, ◌+ℤ◌, pos, unsigned_abs, List, [], ◌∷◌, fold, ◌∙◌, arith}
use Rattle.std.specs.Int.{w128}
use Rattle.std.proofs.lemmas.Int.{ints, int_wrap_fits, fits_signed_from_abs}
use Rattle.obj_counter.specs.Counter.{added, total, sizes}
use Rattle.obj_counter.specs.Laws.{fold-added}

-- the size of a sum is at most the sum of the sizes
unsigned_abs-add : (a b : ℤ) → unsigned_abs (a +ℤ b) ≤ unsigned_abs a + unsigned_abs b
unsigned_abs-add a b = omega (arith, ints)

unsigned_abs-total : (deltas : List ℤ) → unsigned_abs (total deltas) ≤ sizes deltas
unsigned_abs-total [] = omega arith
unsigned_abs-total (delta ∷ deltas) =
    let front = unsigned_abs-add delta (total deltas) in
    let rest = unsigned_abs-total deltas in
    omega (arith, front, rest)

pub fold-added_exact : (deltas : List ℤ) → sizes deltas < 2 ^ 127 → fold added (pos 0) deltas ≡ total deltas
fold-added_exact deltas small =
    let most = unsigned_abs-total deltas in
    let below : unsigned_abs (total deltas) < 2 ^ 127 = omega (arith, most, small) in
    fold-added deltas ∙ int_wrap_fits w128 (total deltas) (fits_signed_from_abs w128 (total deltas) below)
