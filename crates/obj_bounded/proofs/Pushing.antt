-- The cells of a holder, with one more.
use Rattle.std.proofs.Common.{◌≡◌, ◌≢◌, ℕ, ◌+◌, ◌-◌, ◌≤◌, ◌==◌, Bool, true, false, cond, not, List, [], ◌∷◌, ◌++◌, map, filter, refl, sym, ap, ◌∙◌, arith}
use Rattle.std.specs.List.{range_with_len}
use Rattle.std.proofs.lemmas.Bool.{eqb-true, eq-eqb, false≢true}
use Rattle.std.proofs.lemmas.List.{append-nil, append_assoc, map-append, map-id}
use Rattle.std.proofs.lemmas.List.FromFn.{map-range_with_len_more}
use Rattle.std.proofs.lemmas.List.Elements.{filter-append}
use Rattle.obj_bounded.specs.CellNames.{other_holders}

-- a range with one number more
range_more : (k : ℕ) → range_with_len 1 (k + 1) ≡ range_with_len 1 k ++ (1 + k) ∷ []
range_more k = sym (map-id (range_with_len 1 (k + 1))) ∙ (map-range_with_len_more (λ n. n) 1 k (1 + k) refl ∙ ap (λ all. all ++ (1 + k) ∷ []) (map-id (range_with_len 1 k)))

-- one more that counts for it
pub gains_more : (f : ℕ → List ℕ) (from : ℕ) (before names later : List (List ℕ)) → 1 ≤ from → names ≡ before ++ map f (range_with_len 1 (from - 1)) → later ≡ names ++ f from ∷ [] → later ≡ before ++ map f (range_with_len 1 (from + 1 - 1))
gains_more f from before names later low is more =
    let at : 1 + (from - 1) ≡ from = omega (arith, low) in
    let next : from - 1 + 1 ≡ from + 1 - 1 = omega (arith, low) in
    more
    ∙ (ap (λ l. l ++ f from ∷ []) is
    ∙ (append_assoc before (map f (range_with_len 1 (from - 1))) (f from ∷ [])
    ∙ ap (λ l. before ++ l) (sym (map-range_with_len_more f 1 (from - 1) from at) ∙ ap (λ n. map f (range_with_len 1 n)) next)))

-- one more of what it gave, unless that is to itself
pub gifts_more : (f : ℕ → List ℕ) (holder to : ℕ) (before names later : List (List ℕ)) → 1 ≤ to → names ≡ before ++ map f (other_holders holder (to - 1)) → (to ≢ holder → later ≡ names ++ f to ∷ []) → (to ≡ holder → later ≡ names) → later ≡ before ++ map f (other_holders holder (to + 1 - 1))
gifts_more f holder to before names later low is other itself = go (to == holder) refl
  where
    k : ℕ
    k = to - 1

    rest : List ℕ
    rest = other_holders holder k

    grown : (b : Bool) → (to == holder) ≡ b → other_holders holder (to + 1 - 1) ≡ rest ++ cond (not b) (to ∷ []) []
    grown b e =
        let at : 1 + k ≡ to = omega (arith, low) in
        let next : to + 1 - 1 ≡ k + 1 = omega (arith, low) in
        ap (other_holders holder) next
        ∙ (ap (filter (λ n. not (n == holder))) (range_more k ∙ ap (λ n. range_with_len 1 k ++ n ∷ []) at)
        ∙ (filter-append (λ n. not (n == holder)) (range_with_len 1 k) (to ∷ [])
        ∙ ap (λ b. rest ++ cond (not b) (to ∷ []) []) e))

    go : (b : Bool) → (to == holder) ≡ b → later ≡ before ++ map f (other_holders holder (to + 1 - 1))
    go true e = itself (eqb-true to holder e) ∙ (is ∙ ap (λ l. before ++ map f l) (sym (grown true e ∙ append-nil rest)))
    go false e =
        other (λ same. false≢true (sym e ∙ eq-eqb to holder same))
        ∙ (ap (λ l. l ++ f to ∷ []) is
        ∙ (append_assoc before (map f rest) (f to ∷ [])
        ∙ ap (λ l. before ++ l) (sym (map-append f rest (to ∷ [])) ∙ ap (map f) (sym (grown false e)))))
