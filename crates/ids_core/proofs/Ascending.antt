-- Lists in strictly ascending order.
use Rattle.std.proofs.Common.{◌≡◌, ⊎_elim, inl, inr, List, [], ◌∷◌, map, refl, sym, ap, ◌∙◌}
use Rattle.std.specs.Ordering.{is_lt}
use Rattle.std.specs.declared.cmp.Ordering.{Ordering}
use Rattle.std.specs.declared.cmp.Ordering.TheVariants.{Less}
use Rattle.std.specs.Cmp.{IsTotalOrder}
use Rattle.std.specs.List.Sorted.{IsStrictlySortedBy}
use Rattle.std.proofs.lemmas.Bool.{false≢true}
use Rattle.std.proofs.lemmas.Map.Keys.{sorted_tail}
use Rattle.std.proofs.lemmas.Map.Views.{All-after_first}
use Rattle.list_core.specs.Members.{In}
use Rattle.list_core.proofs.Members.{All-In, In_map}
use Rattle.ids_core.proofs.Orders.{not_below_itself}

module _ {X K : Type 0} {R : K → K → Ordering} (order : IsTotalOrder R) (key : X → K) where
  -- no key is below itself
  irreflexive : (k : K) → R k k ≡ Less → ⊥
  irreflexive k less = false≢true (sym (not_below_itself order k) ∙ ap is_lt less)

  -- the key at the front of an ascending list is below each key behind it
  below_behind : (x : X) (xs : List X) (z : X) → IsStrictlySortedBy R (map key (x ∷ xs)) → In z xs → R (key x) (key z) ≡ Less
  below_behind x xs z ascends i = All-In (λ k. R (key x) k ≡ Less) (map key xs) (key z) (All-after_first R (key x) (map key xs) ascends) (In_map key xs z i)

  -- two lists whose keys ascend, with the same members, are one list
  pub one_ascending : (xs ys : List X) → IsStrictlySortedBy R (map key xs) → IsStrictlySortedBy R (map key ys) → ((z : X) → In z xs → In z ys) → ((z : X) → In z ys → In z xs) → xs ≡ ys
  one_ascending [] [] a b into back = refl
  one_ascending [] (y ∷ ys) a b into back = absurd (back y (inl refl))
  one_ascending (x ∷ xs) [] a b into back = absurd (into x (inl refl))
  one_ascending (x ∷ xs) (y ∷ ys) a b into back = ap (λ x. x ∷ xs) head ∙ ap (λ l. y ∷ l) (one_ascending xs ys (sorted_tail R (key x) (map key xs) a) (sorted_tail R (key y) (map key ys) b) tail_into tail_back)
    where
      head : x ≡ y
      head = ⊎_elim (λ e. e) (λ i. ⊎_elim sym (λ j. absurd (irreflexive (key x) (order.trans (key x) (key y) (key x) (below_behind x xs y a j) (below_behind y ys x b i)))) (back y (inl refl))) (into x (inl refl))

      tail_into : (z : X) → In z xs → In z ys
      tail_into z i = ⊎_elim (λ e. absurd (irreflexive (key x) (ap (λ z. R (key x) (key z)) (head ∙ sym e) ∙ below_behind x xs z a i))) (λ j. j) (into z (inr i))

      tail_back : (z : X) → In z ys → In z xs
      tail_back z i = ⊎_elim (λ e. absurd (irreflexive (key y) (ap (λ z. R (key y) (key z)) (sym head ∙ sym e) ∙ below_behind y ys z b i))) (λ j. j) (back z (inr i))
