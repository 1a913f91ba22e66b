-- Places in their order, and those that lie within a vector.
use Rattle.std.proofs.Common.{◌≡◌, ◌≤◌, ◌<◌, ◌^◌, ℕ, Bool, true, false, cond, ⊎_elim, List, length, refl, sym, ap, ◌∙◌, subst, arith}
use Rattle.std.specs.Prelude.{◌&&◌, ◌==◌, nat_le, not, filter}
use Rattle.std.specs.Ordering.{nat_cmp, is_eq, is_le, is_lt, ordering_then}
use Rattle.std.specs.declared.cmp.Ordering.{Ordering}
use Rattle.std.specs.declared.cmp.Ordering.TheVariants.{Less, Equal, Greater}
use Rattle.std.specs.declared.ops.Bound.TheVariants.{Included}
use Rattle.std.specs.Cmp.{IsTotalOrder, nat_cmp_total, Equal-is, tied_itself}
use Rattle.std.specs.FinMap.{nat_cmp-IsAntisymmetric}
use Rattle.std.specs.BTreeMap.{is_at}
use Rattle.std.specs.BTreeMap.Range.{range_contains}
use Rattle.std.proofs.lemmas.Cmp.{then_total, on_total}
use Rattle.std.proofs.lemmas.Bool.{cases_Bool, cases_lt, false≢true, eqb-true, eq-eqb, leb-true, le-leb}
use Rattle.std.proofs.lemmas.Bool.Decides.{nat_tests}
use Rattle.list_core.specs.Members.{In}
use Rattle.list_core.proofs.Members.{filter-agree}
use Rattle.ids_core.specs.Orders.{both_equal}
use Rattle.vv_core.specs.declared.stamp.Stamp.{Stamp}
use Rattle.vv_core.specs.Vectors.{at, within}
use Rattle.vv_core.proofs.Entrywise.{at_past}
use Rattle.stamp_index.specs.declared.places.Place.{Place}
use Rattle.stamp_index.specs.Places.{place_cmp, place_of, has_place, is_reached, HasFitNumbers}
use Rattle.stamp_index.proofs.Finds.{found_none, found_some}

-- ---- which places are there

-- the order is total
place_cmp_total : IsTotalOrder place_cmp
place_cmp_total = then_total (on_total (λ p. p.centre) nat_cmp_total) (then_total (on_total (λ p. p.seq) nat_cmp_total) (on_total (λ p. p.number) nat_cmp_total))

-- what is equal in it is the same
pub place_same : (p q : Place) → is_at (place_cmp p) q ≡ true → p ≡ q
place_same p q is =
    let outer = both_equal (nat_cmp p.centre q.centre) (ordering_then (nat_cmp p.seq q.seq) (nat_cmp p.number q.number)) ((Equal-is (place_cmp p q)).0 is) in
    let inner = both_equal (nat_cmp p.seq q.seq) (nat_cmp p.number q.number) outer.1 in
    λ i. record {
      centre = nat_cmp-IsAntisymmetric p.centre q.centre outer.0 i;
      seq = nat_cmp-IsAntisymmetric p.seq q.seq inner.0 i;
      number = nat_cmp-IsAntisymmetric p.number q.number inner.1 i;
    }

-- a place is equal to itself
pub place_itself : (p q : Place) → p ≡ q → is_at (place_cmp p) q ≡ true
place_itself p q same = subst (λ q. is_at (place_cmp p) q ≡ true) same (ap is_eq (tied_itself place_cmp_total p))

-- a place that is there is a member
pub place_In : (places : List Place) (p : Place) → has_place places p ≡ true → In p places
place_In places p is = let f = found_some (is_at (place_cmp p)) places is in subst (λ q. In q places) (sym (place_same p f.0 f.2)) f.1

-- and a member is there
pub In_place : (places : List Place) (p : Place) → In p places → has_place places p ≡ true
In_place places p i = ⊎_elim (λ t. t) (λ f. absurd (false≢true (sym (found_none (is_at (place_cmp p)) places p f i) ∙ place_itself p p refl))) (cases_Bool (has_place places p))

-- ---- those of a centre up to a number

less_apart : (m n : ℕ) → nat_cmp m n ≡ Less → (n == m) ≡ false
less_apart m n is = grind (arith, nat_tests)

greater_apart : (m n : ℕ) → nat_cmp m n ≡ Greater → (n == m) ≡ false
greater_apart m n is = grind (arith, nat_tests)

equal_same : (m n : ℕ) → nat_cmp m n ≡ Equal → (n == m) ≡ true
equal_same m n is = grind (arith, nat_tests)

less_past : (m n : ℕ) → nat_cmp m n ≡ Less → nat_le n m ≡ false
less_past m n is = grind (arith, nat_tests)

equal_within : (m n : ℕ) → nat_cmp m n ≡ Equal → nat_le n m ≡ true
equal_within m n is = grind (arith, nat_tests)

greater_within : (m n : ℕ) → nat_cmp m n ≡ Greater → nat_le n m ≡ true
greater_within m n is = grind (arith, nat_tests)

from_zero : (n : ℕ) → is_le (nat_cmp 0 n) ≡ true
from_zero n = grind (arith, nat_tests)

to_last : (n : ℕ) → n < 2 ^ 64 → is_lt (nat_cmp 18446744073709551615 n) ≡ false
to_last n fits = let le : n ≤ 18446744073709551615 = omega (arith, fits) in not_above 18446744073709551615 n le
  where
    not_above : (m n : ℕ) → n ≤ m → is_lt (nat_cmp m n) ≡ false
    not_above m n le = grind (arith, nat_tests)

from_zeros : (m n : ℕ) → is_le (ordering_then (nat_cmp 0 m) (nat_cmp 0 n)) ≡ true
from_zeros m n = by (nat_cmp 0 m) refl
  where
    by : (o : Ordering) → nat_cmp 0 m ≡ o → is_le (ordering_then o (nat_cmp 0 n)) ≡ true
    by Less is = refl
    by Equal is = from_zero n
    by Greater is = absurd (false≢true (ap is_le (sym is) ∙ from_zero m))

-- the first and the last place of a centre up to a number
abbrev pub first_place : ℕ → Place
first_place centre = record { centre = centre; seq = 0; number = 0 }

abbrev pub last_place : ℕ → ℕ → Place
last_place centre seq = record { centre = centre; seq = seq; number = 18446744073709551615 }

-- what lies between them is of the centre, up to the number
between : (centre seq : ℕ) (p : Place) → p.number < 2 ^ 64 → range_contains place_cmp (Included (first_place centre)) (Included (last_place centre seq)) p ≡ is_reached centre seq p
between centre seq p fits = by (nat_cmp centre p.centre) refl
  where
    high : (r : Ordering) → nat_cmp seq p.seq ≡ r → not (is_lt (ordering_then r (nat_cmp 18446744073709551615 p.number))) ≡ nat_le p.seq seq
    high Less is = sym (less_past seq p.seq is)
    high Equal is = ap not (to_last p.number fits) ∙ sym (equal_within seq p.seq is)
    high Greater is = sym (greater_within seq p.seq is)

    by : (o : Ordering) → nat_cmp centre p.centre ≡ o → (is_le (ordering_then o (ordering_then (nat_cmp 0 p.seq) (nat_cmp 0 p.number))) && not (is_lt (ordering_then o (ordering_then (nat_cmp seq p.seq) (nat_cmp 18446744073709551615 p.number))))) ≡ ((p.centre == centre) && nat_le p.seq seq)
    by Less is = ap (λ b. b && nat_le p.seq seq) (sym (less_apart centre p.centre is))
    by Greater is = ap (λ b. b && nat_le p.seq seq) (sym (greater_apart centre p.centre is))
    by Equal is =
        ap (λ b. b && not (is_lt (ordering_then (nat_cmp seq p.seq) (nat_cmp 18446744073709551615 p.number)))) (from_zeros p.seq p.number)
        ∙ high (nat_cmp seq p.seq) refl
        ∙ ap (λ b. b && nat_le p.seq seq) (sym (equal_same centre p.centre is))

pub all_between : (centre seq : ℕ) (places : List Place) → HasFitNumbers places → filter (range_contains place_cmp (Included (first_place centre)) (Included (last_place centre seq))) places ≡ filter (is_reached centre seq) places
all_between centre seq places fit = filter-agree (range_contains place_cmp (Included (first_place centre)) (Included (last_place centre seq))) (is_reached centre seq) places (λ p i. between centre seq p (fit p (In_place places p i)))

-- ---- stamps within a vector

module _ (w : List ℕ) (number : ℕ) (s : Stamp) where
  -- the place of a stamp within the vector is of a centre that the vector has, or of 0, up to the entry there
  pub place_reached : within s w ≡ true → ((place_of number s).centre ≤ length w) × (nat_le s.seq (at w (place_of number s).centre) ≡ true)
  place_reached is = by (s.seq == 0) refl
    where
      by : (b : Bool) → (s.seq == 0) ≡ b → (cond b 0 s.centre ≤ length w) × (nat_le s.seq (at w (cond b 0 s.centre)) ≡ true)
      by true none = let zero = eqb-true s.seq 0 none in (omega arith, le-leb s.seq 0 (omega (arith, zero)))
      by false some = (few, is)
        where
          few : s.centre ≤ length w
          few = ⊎_elim (λ lt.
              let low = leb-true s.seq (at w s.centre) is in
              let zero = at_past w s.centre lt in
              absurd (false≢true (sym some ∙ eq-eqb s.seq 0 (omega (arith, low, zero))))) (λ le. le) (cases_lt (length w) s.centre)

  -- and the other way round
  pub reached_within : nat_le s.seq (at w (place_of number s).centre) ≡ true → within s w ≡ true
  reached_within is = by (s.seq == 0) refl is
    where
      by : (b : Bool) → (s.seq == 0) ≡ b → nat_le s.seq (at w (cond b 0 s.centre)) ≡ true → within s w ≡ true
      by true none is = let zero = eqb-true s.seq 0 none in le-leb s.seq (at w s.centre) (omega (arith, zero))
      by false some is = is
