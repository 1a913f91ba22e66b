-- The entry of a centre that a vector does not have.
use Rattle.std.proofs.Common.{◌≡◌, ℕ, zero, suc, true, false, nat_le, List, length, ⊎_elim, refl, sym, ap, ◌∙◌, arith}
use Rattle.std.proofs.lemmas.Bool.{false≢true, and_from, le-leb, cases_lt}
use Rattle.std.proofs.lemmas.List.{get_or_past}
use Rattle.vv_core.specs.Vectors.{at}
use Rattle.join_bundle.specs.Tests.{is_centre}

-- it is 0
outside : (v : List ℕ) (e : ℕ) → is_centre (length v) e ≡ false → at v e ≡ 0
outside v zero h = refl
outside v (suc i) h =
    ⊎_elim
    (λ lt. absurd (false≢true (sym h ∙ and_from (nat_le 1 (suc i)) (nat_le (suc i) (length v)) (le-leb 1 (suc i) (omega arith)) (le-leb (suc i) (length v) (omega (arith, lt))))))
    (λ le. get_or_past v i 0 le)
    (cases_lt i (length v))

-- so it is within any limit
pub room_outside : (v : List ℕ) (e limit : ℕ) → is_centre (length v) e ≡ false → nat_le (at v e) limit ≡ true
room_outside v e limit h = ap (λ x. nat_le x limit) (outside v e h) ∙ le-leb 0 limit (omega arith)
