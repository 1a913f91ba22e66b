-- The transactions with a stamp within a vector, found by their numbers.
use Rattle.std.proofs.Common.{◌≡◌, ◌≤◌, ◌<◌, ℕ, true, inl, inr, ⊎_elim, Option, Some, None, List, [], ◌∷◌, length, refl, sym, ap, ◌∙◌, subst, arith}
use Rattle.std.specs.Prelude.{◌==◌}
use Rattle.std.specs.List.{AllByRecursion, cons_option}
use Rattle.std.specs.List.Sorted.{IsStrictlySortedBy}
use Rattle.std.specs.Ordering.{nat_cmp}
use Rattle.std.specs.declared.cmp.Ordering.TheVariants.{Less}
use Rattle.std.specs.Map.{lookup, values_of}
use Rattle.std.specs.BTreeMap.{is_at}
use Rattle.std.proofs.lemmas.Bool.{cases_Bool, false≢true, eqb-true, eq-eqb}
use Rattle.std.proofs.lemmas.Bool.Decides.{nat_tests}
use Rattle.list_core.specs.Members.{In}
use Rattle.list_core.proofs.Members.{In_filter, In_from_filter}
use Rattle.op_log.specs.declared.logged.Logged.{Logged}
use Rattle.stamp_index.specs.declared.places.Place.{Place}
use Rattle.op_log.specs.Logs.{is_inside, within_of}
use Rattle.stamp_index.specs.Places.{is_numbered, reached_of}
use Rattle.op_log.specs.Places.{is_among, HasReached, IsPlaced}
use Rattle.op_log.specs.Tables.{found_of, Rises, IsKeyed}
use Rattle.stamp_index.proofs.Finds.{found_none, found_some}
use Rattle.op_log.proofs.Items.{rises_one, rises_same, rises_filter}
use Rattle.op_log.proofs.Numbers.{found_at}
use Rattle.op_log.proofs.Reaching.{reached_inside, inside_reached}
use Rattle.op_log.proofs.Taking.{member_at}

-- ---- the numbers of places

same_test : (m n : ℕ) → is_at (nat_cmp m) n ≡ (m == n)
same_test m n = grind (arith, nat_tests)

module _ (w : List ℕ) (places : List Place) (n : ℕ) where
  -- a number of the reached places of a centre
  pub number_reached : (centre : ℕ) → centre ≤ length w → is_numbered (reached_of w centre places) n ≡ true → HasReached w places n
  number_reached centre small some =
      let f = found_some (λ (p : Place). p.number == n) (reached_of w centre places) some in
      record { centre = centre; small = small; place = f.0; there = f.1; is = eqb-true f.0.number n f.2 }

  -- and the other way round
  pub reached_number : (r : HasReached w places n) → is_numbered (reached_of w r.centre places) n ≡ true
  reached_number r = ⊎_elim
      (λ some. some)
      (λ none. absurd (false≢true (sym (found_none (λ (p : Place). p.number == n) (reached_of w r.centre places) r.place none r.there) ∙ eq-eqb r.place.number n r.is)))
      (cases_Bool (is_numbered (reached_of w r.centre places) n))

-- a number that is there is a member
among_In : (ns : List ℕ) (n : ℕ) → is_among ns n ≡ true → In n ns
among_In ns n is = let f = found_some (is_at (nat_cmp n)) ns is in subst (λ m. In m ns) (sym (eqb-true n f.0 (sym (same_test n f.0) ∙ f.2))) f.1

In_among : (ns : List ℕ) (n : ℕ) → In n ns → is_among ns n ≡ true
In_among ns n i = ⊎_elim (λ some. some) (λ none. absurd (false≢true (sym (found_none (is_at (nat_cmp n)) ns n none i) ∙ same_test n n ∙ eq-eqb n n refl))) (cases_Bool (is_among ns n))

-- ---- what is found at numbers

module _ (es : List (ℕ × Logged)) where
  -- what is found is found at one of them
  found_from : (ns : List ℕ) (x : Logged) → In x (found_of es ns) → (n : ℕ) × In n ns × (lookup (is_at (nat_cmp n)) es ≡ Some x)
  found_from [] x i = absurd i
  found_from (n ∷ ns) x i = go (lookup (is_at (nat_cmp n)) es) refl i (λ j. found_from ns x j)
    where
      go : (r : Option Logged) → lookup (is_at (nat_cmp n)) es ≡ r → In x (cons_option r (found_of es ns)) → (In x (found_of es ns) → (m : ℕ) × In m ns × (lookup (is_at (nat_cmp m)) es ≡ Some x)) → (m : ℕ) × In m (n ∷ ns) × (lookup (is_at (nat_cmp m)) es ≡ Some x)
      go None is i rest = let r = rest i in (r.0, inr r.1, r.2)
      go (Some y) is (inl same) rest = (n, inl refl, is ∙ ap Some (sym same))
      go (Some y) is (inr j) rest = let r = rest j in (r.0, inr r.1, r.2)

  -- and what is found at one of them is found
  to_found : (ns : List ℕ) (n : ℕ) (x : Logged) → In n ns → lookup (is_at (nat_cmp n)) es ≡ Some x → In x (found_of es ns)
  to_found [] n x i is = absurd i
  to_found (m ∷ ns) n x (inl same) is = subst (λ r. In x (cons_option r (found_of es ns))) (sym (ap (λ m. lookup (is_at (nat_cmp m)) es) (sym same) ∙ is)) (inl refl)
  to_found (m ∷ ns) n x (inr i) is = go (lookup (is_at (nat_cmp m)) es) (to_found ns n x i is)
    where
      go : (r : Option Logged) → In x (found_of es ns) → In x (cons_option r (found_of es ns))
      go None rest = rest
      go (Some y) rest = inr rest

  less_number : (m n : ℕ) → nat_cmp m n ≡ Less → m < n
  less_number m n is = grind (arith, nat_tests)

  above_all : (n : ℕ) (ns : List ℕ) → AllByRecursion (λ m. nat_cmp n m ≡ Less) ns → (m : ℕ) → In m ns → n < m
  above_all n [] all m i = absurd i
  above_all n (k ∷ ns) all m (inl same) = subst (λ m. n < m) (sym same) (less_number n k all.0)
  above_all n (k ∷ ns) all m (inr i) = above_all n ns all.1 m i

  -- where the numbers ascend, so does what is found
  rises_found : IsKeyed es → (ns : List ℕ) → IsStrictlySortedBy nat_cmp ns → Rises (found_of es ns)
  unfolding IsStrictlySortedBy
  rises_found keyed [] sorted = tt
  rises_found keyed (n ∷ ns) sorted = go (lookup (is_at (nat_cmp n)) es) refl (rises_found keyed ns sorted.1)
    where
      go : (r : Option Logged) → lookup (is_at (nat_cmp n)) es ≡ r → Rises (found_of es ns) → Rises (cons_option r (found_of es ns))
      go None is rest = rest
      go (Some x) is rest = (
        λ y i.
            let r = found_from ns y i in
            let here = (found_at n es x keyed is).1 in
            let there = (found_at r.0 es y keyed r.2).1 in
            let lt = above_all n ns sorted.0 r.0 r.1 in
            omega (arith, here, there, lt),
        rest,
      )

-- what is found at the numbers of all that is reached are the transactions with a stamp within the vector
pub found_within : (w : List ℕ) (es : List (ℕ × Logged)) (places : List Place) (ns : List ℕ) → IsKeyed es → Rises (values_of es) → IsPlaced places (values_of es) → IsStrictlySortedBy nat_cmp ns → ((n : ℕ) → is_among ns n ≡ true → HasReached w places n) → ((n : ℕ) → HasReached w places n → is_among ns n ≡ true) → found_of es ns ≡ within_of w (values_of es)
found_within w es places ns keyed rises placed sorted there all = rises_same (found_of es ns) (within_of w (values_of es)) (rises_found es keyed ns sorted) (rises_filter (is_inside w) (values_of es) rises)
    (λ x i.
    let r = found_from es ns x i in
    let f = found_at r.0 es x keyed r.2 in
    let h = there r.0 (In_among ns r.0 r.1) in
    let o = inside_reached w (values_of es) places h.centre h.place placed h.there in
    let one = rises_one (values_of es) o.0 x rises o.1 f.0 (o.2 ∙ h.is ∙ sym f.1) in
    In_filter (is_inside w) (values_of es) x f.0 (subst (λ (y : Logged). is_inside w y ≡ true) one o.3))
    (λ x i.
    let f = In_from_filter (is_inside w) (values_of es) x i in
    to_found es ns x.number x (among_In ns x.number (all x.number (reached_inside w (values_of es) places x placed f.0 f.1))) (member_at x.number es x keyed rises f.0 refl))
