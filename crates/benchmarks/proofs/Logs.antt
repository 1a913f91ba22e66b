-- The logs of the benchmarks: a number that is above all others is new.
use Rattle.std.proofs.Common.{◌≡◌, ℕ, ◌+◌, ◌<◌, Bool, true, false, List, [], ◌∷◌, ◌++◌, inl, inr, ⊎_elim, refl, sym, ap, ◌∙◌, subst, arith}
use Rattle.std.specs.Prelude.{◌||◌}
use Rattle.std.specs.List.{list_any}
use Rattle.std.proofs.lemmas.Bool.{cases_Bool}
use Rattle.list_core.specs.Members.{In}
use Rattle.list_core.proofs.Members.{In_either}
use Rattle.ids_core.specs.declared.ids.Dot.{Dot}
use Rattle.ids_core.specs.Ids.{same_dot}
use Rattle.ids_core.specs.Same.{same_dot-true}
use Rattle.op_log.specs.declared.logged.Logged.{Logged}
use Rattle.op_log.specs.Logs.{has_dot}
use Rattle.benchmarks.specs.Logs.{IsBelow}

-- no transaction has a dot with a greater number
pub fresh : (n : ℕ) (d : Dot) (items : List Logged) → IsBelow n items → d.number ≡ n → has_dot d items ≡ false
fresh n d [] below is = refl
fresh n d (x ∷ items) below is = ap (λ b. b || has_dot d items) (⊎_elim (λ same. absurd (other same)) (λ apart. apart) (cases_Bool (same_dot x.tx.dot d))) ∙ fresh n d items (λ y i. below y (inr i)) is
  where
    other : same_dot x.tx.dot d ≡ true → ⊥
    other same = let lt = below x (inl refl) in let at = ap (λ (d : Dot). d.number) (same_dot-true x.tx.dot d same) in omega (arith, lt, at, is)

-- with one more of this number all are below the next one
pub below_more : (n : ℕ) (items : List Logged) (x : Logged) → IsBelow n items → x.tx.dot.number ≡ n → IsBelow (n + 1) (items ++ x ∷ [])
below_more n items x below is y i = ⊎_elim (λ j. let lt = below y j in omega (arith, lt)) last (In_either items (x ∷ []) y i)
  where
    last : In y (x ∷ []) → y.tx.dot.number < n + 1
    last (inl same) = let at = ap (λ (x : Logged). x.tx.dot.number) same in omega (arith, at, is)
    last (inr j) = absurd j
