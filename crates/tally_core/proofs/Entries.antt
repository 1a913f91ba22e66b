-- The entries of a finite map are what it answers.
use Rattle.std.proofs.Common.{◌≡◌, ◌⊎◌, inl, inr, ⊎_elim, true, false, cond, List, [], ◌∷◌, Some, refl, sym, ap, ◌∙◌, subst}
use Rattle.std.proofs.lemmas.Bool.{cases_Bool}
use Rattle.std.proofs.lemmas.Option.{none-some, same_Some}
use Rattle.std.proofs.lemmas.Cmp.{eq_by_cmp_equiv}
use Rattle.std.specs.Ordering.{eq_by_cmp}
use Rattle.std.specs.declared.cmp.Ordering.{Ordering}
use Rattle.std.specs.declared.cmp.Ordering.TheVariants.{Less}
use Rattle.std.specs.Cmp.{IsTotalOrder}
use Rattle.std.specs.FinMap.{FinMap, entries, find, get, get-entries, IsAntisymmetric}
use Rattle.std.specs.List.{AllByRecursion}
use Rattle.std.specs.List.Sorted.{IsStrictlySortedBy}
use Rattle.std.specs.Map.{keys_of}
use Rattle.list_core.specs.Members.{In}
use Rattle.tally_core.proofs.Sparse.{is_same, sorted_keys}

-- what holds of each key holds of that of an entry
pub key_of : {K X : Type 0} (Q : K → Type 0) (es : List (K × X)) → AllByRecursion Q (keys_of es) → (e : K × X) → In e es → Q e.0
key_of Q [] h e i = absurd i
key_of Q (f ∷ es) h e i = ⊎_elim (λ s. subst (λ e. Q e.0) (sym s) h.0) (λ j. key_of Q es h.1 e j) i

module _ {K X : Type 0} (R : K → K → Ordering) (o : IsTotalOrder R) (same : IsAntisymmetric R) where
  found_in : (q : K) (c : X) (es : List (K × X)) → find R q es ≡ Some c → In (q, c) es
  found_in q c [] h = none-some c h
  found_in q c (e ∷ es) h = at (cases_Bool (eq_by_cmp R q e.0)) (λ g. found_in q c es g)
    where
      at : (eq_by_cmp R q e.0 ≡ true) ⊎ (eq_by_cmp R q e.0 ≡ false) → (find R q es ≡ Some c → In (q, c) es) → In (q, c) (e ∷ es)
      at (inl t) rest =
          let key : q ≡ e.0 = is_same same q e.0 t in
          let value : e.1 ≡ c = same_Some e.1 c (sym (ap (λ b. cond b (Some e.1) (find R q es)) t) ∙ h) in
          inl (λ i. (key i, sym value i))
      at (inr f) rest = inr (rest (sym (ap (λ b. cond b (Some e.1) (find R q es)) f) ∙ h))

  in_found : (es : List (K × X)) → IsStrictlySortedBy R (keys_of es) → (e : K × X) → In e es → find R e.0 es ≡ Some e.1
  unfolding IsStrictlySortedBy
  in_found [] h e i = absurd i
  in_found (f ∷ es) h e (inl s) = subst (λ e. cond (eq_by_cmp R e.0 f.0) (Some f.1) (find R e.0 es) ≡ Some e.1) (sym s) (rw ((eq_by_cmp_equiv o).refl f.0) refl)
  in_found (f ∷ es) h e (inr j) =
      let below = key_of (λ y. R f.0 y ≡ Less) es h.0 e j in
      rw ((eq_by_cmp_equiv o).symm e.0 f.0, below) (in_found es h.1 e j)

  pub get_in : (m : FinMap R X) (q : K) (c : X) → get m q ≡ Some c → In (q, c) (entries m)
  get_in m q c h = found_in q c (entries m) (sym (get-entries m q) ∙ h)

  pub in_get : (m : FinMap R X) (e : K × X) → In e (entries m) → get m e.0 ≡ Some e.1
  in_get m e i = get-entries m e.0 ∙ in_found (entries m) (sorted_keys R m) e i
