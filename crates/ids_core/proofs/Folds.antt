-- A fold of commuting steps does not see the order.
use Rattle.std.proofs.Common.{◌≡◌, List, ap, ◌∙◌, inl, refl, fold}
use Rattle.list_core.specs.Permutations.{Perm, Done, Skip, Swap, Then}
use Rattle.ids_core.specs.declared.ids.Mark.{Mark}
use Rattle.ids_core.specs.Kinds.{Commutes, Distinct}
use Rattle.ids_core.proofs.Distinct.{distinct_perm}

-- commuting steps end in one state, in every order
pub fold_perm : {S O : Type 0} (step : S → (Mark × O) → S) → Commutes step → (xs ys : List (Mark × O)) → Perm xs ys → Distinct xs → (s : S) → fold step s xs ≡ fold step s ys
fold_perm step c _ _ Done h s = refl
fold_perm step c _ _ (Skip x xs ys p) h s = fold_perm step c xs ys p h.1 (step s x)
fold_perm step c _ _ (Swap x y xs) h s = ap (λ s. fold step s xs) (c s x y (h.0 y (inl refl)))
fold_perm step c _ _ (Then xs ys zs p q) h s = fold_perm step c xs ys p h s ∙ fold_perm step c ys zs q (distinct_perm xs ys p h) s
