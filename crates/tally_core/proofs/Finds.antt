-- Members that pass a test, and the greatest of a list.
use Rattle.std.proofs.Common.{◌≡◌, Bool, true, false, ◌⊎◌, inl, inr, ⊎_elim, List, [], ◌∷◌, refl, sym, ap, ◌∙◌}
use Rattle.std.proofs.lemmas.Bool.{cases_Bool, or_cases, or_parts, or_left, or_right, false≢true}
use Rattle.list_core.specs.Members.{In}
use Rattle.tally_core.specs.Sees.{any}

-- where some element passes, a member does
pub any_true : {X : Type 0} (p : X → Bool) (xs : List X) → any p xs ≡ true → (x : X) × In x xs × (p x ≡ true)
any_true p [] h = absurd (false≢true h)
any_true p (x ∷ xs) h =
    ⊎_elim (λ e. (x, inl refl, e)) (λ e. let r = any_true p xs e in (r.0, inr r.1, r.2)) (or_cases (p x) (any p xs) h)

-- where none passes, no member does
pub any_false : {X : Type 0} (p : X → Bool) (xs : List X) (x : X) → any p xs ≡ false → In x xs → p x ≡ false
any_false p [] x h i = absurd i
any_false p (y ∷ xs) x h (inl e) = ap p e ∙ (or_parts (p y) (any p xs) h).0
any_false p (y ∷ xs) x h (inr i) = any_false p xs x (or_parts (p y) (any p xs) h).1 i

-- a member that passes is some element that passes
pub any_from : {X : Type 0} (p : X → Bool) (xs : List X) (x : X) → In x xs → p x ≡ true → any p xs ≡ true
any_from p [] x i h = absurd i
any_from p (y ∷ xs) x (inl e) h = or_left (p y) (any p xs) (ap p (sym e) ∙ h)
any_from p (y ∷ xs) x (inr i) h = or_right (p y) (any p xs) (any_from p xs x i h)

-- the greatest of a list with one element more
greatest_more : {X : Type 0} (less : X → X → Bool) → ((p : X) → less p p ≡ false) → ((p q r : X) → less p q ≡ true → less q r ≡ true → less p r ≡ true) → (y : X) (ys : List X) (g : X) → In g ys → ((u : X) → In u ys → less g u ≡ false) → (h : X) × In h (y ∷ ys) × ((u : X) → In u (y ∷ ys) → less h u ≡ false)
greatest_more {X} less irr tra y ys g i above = choose (cases_Bool (less g y))
  where
    first : less g y ≡ true → (u : X) → In u (y ∷ ys) → less y u ≡ false
    first h u (inl e) = ap (less y) e ∙ irr y
    first h u (inr j) = not_above (cases_Bool (less y u))
      where
        not_above : (less y u ≡ true) ⊎ (less y u ≡ false) → less y u ≡ false
        not_above (inl t) = absurd (false≢true (sym (above u j) ∙ tra g y u h t))
        not_above (inr f) = f

    other : less g y ≡ false → (u : X) → In u (y ∷ ys) → less g u ≡ false
    other h u (inl e) = ap (less g) e ∙ h
    other h u (inr j) = above u j

    choose : (less g y ≡ true) ⊎ (less g y ≡ false) → (h : X) × In h (y ∷ ys) × ((u : X) → In u (y ∷ ys) → less h u ≡ false)
    choose (inl t) = (y, inl refl, first t)
    choose (inr f) = (g, inr i, other f)

-- a list with an element has a greatest one
pub greatest : {X : Type 0} (less : X → X → Bool) → ((p : X) → less p p ≡ false) → ((p q r : X) → less p q ≡ true → less q r ≡ true → less p r ≡ true) → (xs : List X) (x : X) → In x xs → (g : X) × In g xs × ((u : X) → In u xs → less g u ≡ false)
greatest less irr tra [] x i = absurd i
greatest {X} less irr tra (y ∷ []) x i = (y, inl refl, alone)
  where
    alone : (u : X) → In u (y ∷ []) → less y u ≡ false
    alone u (inl e) = ap (less y) e ∙ irr y
    alone u (inr i) = absurd i
greatest less irr tra (y ∷ (z ∷ zs)) x i =
    let g = greatest less irr tra (z ∷ zs) z (inl refl) in greatest_more less irr tra y (z ∷ zs) g.0 g.1 g.2
