-- The members of a list in strictly ascending order, each once.
use Rattle.std.proofs.Common.{◌≡◌, inl, inr, ⊎_elim, List, [], ◌∷◌, refl, ap, ◌∙◌}
use Rattle.std.specs.Cmp.{IsTotalOrder}
use Rattle.std.specs.FinMap.{IsAntisymmetric}
use Rattle.std.specs.List.Sorted.{IsStrictlySortedBy}
use Rattle.std.specs.Ordering.{ordering_reverse}
use Rattle.std.specs.declared.cmp.Ordering.{Ordering}
use Rattle.std.specs.declared.cmp.Ordering.TheVariants.{Less, Equal, Greater}
use Rattle.std.proofs.lemmas.List.Elements.{recursion_from_All}
use Rattle.std.proofs.lemmas.Map.Keys.{sorted_tail}
use Rattle.std.proofs.lemmas.Map.Views.{All-after_first}
use Rattle.list_core.specs.Members.{In}
use Rattle.list_core.proofs.Members.{All-In, In-All}

module _ {K : Type 0} {R : K → K → Ordering} (order : IsTotalOrder R) (same : IsAntisymmetric R) where
  -- the keys ascend, and are those of the list
  pub record AreKeys (xs keys : List K) : Type 0 where
    pub ascend : IsStrictlySortedBy R keys
    pub all : (z : K) → In z xs → In z keys
    pub only : (z : K) → In z keys → In z xs

  -- a key below all others, in front of them
  in_front : (k : K) (keys : List K) → ((z : K) → In z keys → R k z ≡ Less) → IsStrictlySortedBy R keys → IsStrictlySortedBy R (k ∷ keys)
  unfolding IsStrictlySortedBy
  in_front k keys below ascend = (recursion_from_All (λ z. R k z ≡ Less) keys (In-All (λ z. R k z ≡ Less) keys below), ascend)

  -- no keys ascend
  none_ascend : IsStrictlySortedBy R []
  unfolding IsStrictlySortedBy
  none_ascend = tt

  -- the first key is below the others
  first_below : (k : K) (keys : List K) → IsStrictlySortedBy R (k ∷ keys) → (z : K) → In z keys → R k z ≡ Less
  first_below k keys ascend z i = All-In (λ z. R k z ≡ Less) keys z (All-after_first R k keys ascend) i

  -- one key more
  put : (x : K) (keys : List K) → IsStrictlySortedBy R keys → (more : List K) × AreKeys (x ∷ keys) more
  put x [] ascend = (x ∷ [], record { ascend = in_front x [] (λ z i. absurd i) ascend; all = λ z i. i; only = λ z i. i })
  put x (k ∷ keys) ascend = go (R x k) refl (put x keys (sorted_tail R k keys ascend))
    where
      go : (o : Ordering) → R x k ≡ o → (more : List K) × AreKeys (x ∷ keys) more → (more : List K) × AreKeys (x ∷ k ∷ keys) more
      go Less is rest = (
        x ∷ k ∷ keys,
        record {
          ascend = in_front x (k ∷ keys) (λ z i. ⊎_elim (λ e. ap (R x) e ∙ is) (λ j. order.trans x k z is (first_below k keys ascend z j)) i) ascend;
          all = λ z i. i;
          only = λ z i. i;
        },
      )
      go Equal is rest = (
        k ∷ keys,
        record {
          ascend = ascend;
          all = λ z i. ⊎_elim (λ e. inl (e ∙ same x k is)) (λ j. j) i;
          only = λ z i. inr i;
        },
      )
      go Greater is rest = (
        k ∷ rest.0,
        record {
          ascend = in_front k rest.0 (λ z i. ⊎_elim (λ e. ap (R k) e ∙ (order.antisymm k x ∙ ap ordering_reverse is)) (λ j. first_below k keys ascend z j) (rest.1.only z i)) rest.1.ascend;
          all = λ z i. ⊎_elim (λ e. inr (rest.1.all z (inl e))) (λ j. ⊎_elim (λ e. inl e) (λ l. inr (rest.1.all z (inr l))) j) i;
          only = λ z i. ⊎_elim (λ e. inr (inl e)) (λ j. ⊎_elim (λ e. inl e) (λ l. inr (inr l)) (rest.1.only z j)) i;
        },
      )

  -- the keys of a list
  pub keys_of : (xs : List K) → (keys : List K) × AreKeys xs keys
  keys_of [] = ([], record { ascend = none_ascend; all = λ z i. i; only = λ z i. i })
  keys_of (x ∷ xs) = go (keys_of xs)
    where
      go : (keys : List K) × AreKeys xs keys → (keys : List K) × AreKeys (x ∷ xs) keys
      go rest =
          let more = put x rest.0 rest.1.ascend in (
            more.0,
            record {
              ascend = more.1.ascend;
              all = λ z i. more.1.all z (⊎_elim (λ e. inl e) (λ j. inr (rest.1.all z j)) i);
              only = λ z i. ⊎_elim (λ e. inl e) (λ j. inr (rest.1.only z j)) (more.1.only z i);
            },
          )
