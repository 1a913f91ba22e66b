-- The order of two names whose first bytes are the same, as many as the shorter one has.
use Rattle.std.proofs.Common.{◌≡◌, ◌<◌, ◌∙◌, ℕ, zero, suc, List, [], ◌∷◌, length, drop, refl, sym, arith}
use Rattle.std.specs.Prelude.{min}
use Rattle.std.specs.Ordering.{nat_cmp, MatchOrdering}
use Rattle.std.specs.declared.cmp.Ordering.{Ordering}
use Rattle.std.specs.declared.cmp.Ordering.TheVariants.{Less, Equal, Greater}
use Rattle.std.specs.Cmp.{ranked, nat_cmp_is}
use Rattle.ids_core.specs.Orders.{name_cmp}

-- one more on both sides changes no order
one_more : (a b : ℕ) → nat_cmp (suc a) (suc b) ≡ nat_cmp a b
one_more a b = sym (nat_cmp_is (suc a) (suc b) (nat_cmp a b) (more (nat_cmp a b) (ranked a b (nat_cmp a b) refl)))
  where
    more : (r : Ordering) → MatchOrdering r (a < b) (a ≡ b) (b < a) → MatchOrdering r (suc a < suc b) (suc a ≡ suc b) (suc b < suc a)
    more Less h = let l : a < b = h in omega arith
    more Equal h = let l : a ≡ b = h in omega arith
    more Greater h = let l : b < a = h in omega arith

-- where the shorter one of two lists ends, their lengths tell how the rest is ordered
pub ended : (xs ys : List ℕ) (i : ℕ) → i ≡ min (length xs) (length ys) → nat_cmp (length xs) (length ys) ≡ name_cmp (drop i xs) (drop i ys)
ended [] [] i e = let z : i ≡ 0 = omega arith in rw z refl
ended [] (y ∷ ys) i e =
    let z : i ≡ 0 = omega arith in
    let l : 0 < suc (length ys) = omega arith in
    rw z (sym (nat_cmp_is 0 (suc (length ys)) Less l))
ended (x ∷ xs) [] i e =
    let z : i ≡ 0 = omega arith in
    let l : 0 < suc (length xs) = omega arith in
    rw z (sym (nat_cmp_is (suc (length xs)) 0 Greater l))
ended (x ∷ xs) (y ∷ ys) zero e = let none : zero ≡ min (suc (length xs)) (suc (length ys)) = e in absurd (omega arith)
ended (x ∷ xs) (y ∷ ys) (suc i) e =
    let some : suc i ≡ min (suc (length xs)) (suc (length ys)) = e in
    one_more (length xs) (length ys) ∙ ended xs ys i (omega arith)
