-- Operations with different identifiers.
use Rattle.std.proofs.Common.{◌≡◌, inl, inr, ⊎_elim, List, [], ◌∷◌, ◌++◌, refl, sym, ap, ◌∙◌}
use Rattle.list_core.specs.Members.{In}
use Rattle.list_core.specs.Permutations.{Perm, Done, Skip, Swap, Then}
use Rattle.list_core.proofs.Members.{In_either}
use Rattle.list_core.proofs.Permutations.{perm_in}
use Rattle.ids_core.specs.declared.ids.Mark.{Mark}
use Rattle.ids_core.specs.Kinds.{Distinct}

-- two of them with one identifier are one operation
pub one_operation : {O : Type 0} (ops : List (Mark × O)) (a b : Mark × O) → Distinct ops → In a ops → In b ops → a.0.id ≡ b.0.id → a ≡ b
one_operation [] a b distinct i j same = absurd i
one_operation (op ∷ ops) a b distinct (inl p) (inl q) same = p ∙ sym q
one_operation (op ∷ ops) a b distinct (inl p) (inr j) same = absurd (distinct.0 b j (ap (λ o. o.0.id) (sym p) ∙ same))
one_operation (op ∷ ops) a b distinct (inr i) (inl q) same = absurd (distinct.0 a i (ap (λ o. o.0.id) (sym q) ∙ sym same))
one_operation (op ∷ ops) a b distinct (inr i) (inr j) same = one_operation ops a b distinct.1 i j same

-- two lists of them without a common identifier are one such list together
pub distinct_append : {O : Type 0} (xs ys : List (Mark × O)) → Distinct xs → Distinct ys → ((x y : Mark × O) → In x xs → In y ys → x.0.id ≡ y.0.id → ⊥) → Distinct (xs ++ ys)
distinct_append [] ys left right cross = right
distinct_append (x ∷ xs) ys left right cross = (
  λ other i same. ⊎_elim (λ j. left.0 other j same) (λ j. cross x other (inl refl) j same) (In_either xs ys other i),
  distinct_append xs ys left.1 right (λ x y i j. cross x y (inr i) j),
)

-- another order keeps the identifiers different
pub distinct_perm : {O : Type 0} (xs ys : List (Mark × O)) → Perm xs ys → Distinct xs → Distinct ys
distinct_perm _ _ Done h = h
distinct_perm _ _ (Skip x xs ys p) h = (λ other i. h.0 other ((perm_in xs ys other p).1 i), distinct_perm xs ys p h.1)
distinct_perm _ _ (Swap x y xs) h =
    (λ other i. ⊎_elim (λ e t. h.0 y (inl refl) (sym (t ∙ ap (λ a. a.0.id) e))) (λ j. h.1.0 other j) i, (λ other i. h.0 other (inr i), h.1.1))
distinct_perm _ _ (Then xs ys zs p q) h = distinct_perm ys zs q (distinct_perm xs ys p h)
