-- What a test finds in a list.
use Rattle.std.proofs.Common.{◌≡◌, Bool, true, false, inl, inr, ⊎_elim, List, [], ◌∷◌, refl, sym, ap, ◌∙◌}
use Rattle.std.specs.Prelude.{◌||◌}
use Rattle.std.specs.List.{list_any}
use Rattle.std.proofs.lemmas.Bool.{cases_Bool, false≢true}
use Rattle.list_core.specs.Members.{In}

-- a test that fails of each member finds none
pub finds_none : {X : Type 0} (p : X → Bool) (xs : List X) → ((x : X) → In x xs → p x ≡ true → ⊥) → list_any p xs ≡ false
finds_none p [] none = refl
finds_none p (x ∷ xs) none = ap (λ b. b || list_any p xs) (⊎_elim (λ is. absurd (none x (inl refl) is)) (λ is. is) (cases_Bool (p x))) ∙ finds_none p xs (λ y i. none y (inr i))

-- where a test finds none, it fails of each member
pub found_none : {X : Type 0} (p : X → Bool) (xs : List X) (x : X) → list_any p xs ≡ false → In x xs → p x ≡ false
found_none p [] x none i = absurd i
found_none {X} p (y ∷ xs) x none i = go (p y) refl none i (λ none j. found_none p xs x none j)
  where
    go : (b : Bool) → p y ≡ b → (b || list_any p xs) ≡ false → In x (y ∷ xs) → (list_any p xs ≡ false → In x xs → p x ≡ false) → p x ≡ false
    go true is none j rest = absurd (false≢true (sym none))
    go false is none (inl same) rest = ap p same ∙ is
    go false is none (inr j) rest = rest none j

-- where a test finds one, that is a member
pub found_some : {X : Type 0} (p : X → Bool) (xs : List X) → list_any p xs ≡ true → (x : X) × In x xs × (p x ≡ true)
found_some p [] some = absurd (false≢true some)
found_some {X} p (y ∷ xs) some = go (p y) refl some (λ some. found_some p xs some)
  where
    go : (b : Bool) → p y ≡ b → (b || list_any p xs) ≡ true → (list_any p xs ≡ true → (x : X) × In x xs × (p x ≡ true)) → (x : X) × In x (y ∷ xs) × (p x ≡ true)
    go true is some rest = (y, inl refl, is)
    go false is some rest = let r = rest some in (r.0, inr r.1, r.2)
