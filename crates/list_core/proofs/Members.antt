-- The members of lists, and what holds of them.
use Rattle.std.proofs.Common.{◌≡◌, ℕ, zero, suc, ◌⊎◌, inl, inr, ⊎_elim, Bool, true, false, cond, List, [], ◌∷◌, ◌++◌, take, drop, map, refl, sym, ap, ◌∙◌, subst}
use Rattle.std.specs.Prelude.{filter, flat_map, All}
use Rattle.std.proofs.lemmas.Bool.{false≢true}
use Rattle.std.proofs.lemmas.List.Elements.{All-nil, All-cons, All-head, All-tail}
use Rattle.list_core.specs.Members.{In}

-- what holds of each element holds of a member
pub All-In : {X : Type 0} (P : X → Type 0) (xs : List X) (x : X) → All P xs → In x xs → P x
All-In P [] x all i = absurd i
All-In P (y ∷ ys) x all (inl same) = subst P (sym same) (All-head P y ys all)
All-In P (y ∷ ys) x all (inr i) = All-In P ys x (All-tail P y ys all) i

-- what holds of each member holds of each element
pub In-All : {X : Type 0} (P : X → Type 0) (xs : List X) → ((x : X) → In x xs → P x) → All P xs
In-All P [] each = All-nil P
In-All P (x ∷ xs) each = All-cons P x xs (each x (inl refl)) (In-All P xs (λ y i. each y (inr i)))

-- two tests that agree at each member keep the same elements
pub filter-agree : {X : Type 0} (p q : X → Bool) (xs : List X) → ((x : X) → In x xs → p x ≡ q x) → filter p xs ≡ filter q xs
filter-agree p q [] same = refl
filter-agree p q (x ∷ xs) same =
    ap (λ b. cond b (x ∷ filter p xs) (filter p xs)) (same x (inl refl))
    ∙ ap (λ ys. cond (q x) (x ∷ ys) ys) (filter-agree p q xs (λ y i. same y (inr i)))

-- where all pass a test, all are left
pub filter_all : {X : Type 0} (test : X → Bool) (xs : List X) → ((x : X) → In x xs → test x ≡ true) → filter test xs ≡ xs
filter_all test [] all = refl
filter_all test (x ∷ xs) all = ap (λ b. cond b (x ∷ filter test xs) (filter test xs)) (all x (inl refl)) ∙ ap (λ l. x ∷ l) (filter_all test xs (λ y i. all y (inr i)))

-- where none passes it, none is left
pub filter_none : {X : Type 0} (test : X → Bool) (xs : List X) → ((x : X) → In x xs → test x ≡ false) → filter test xs ≡ []
filter_none test [] none = refl
filter_none test (x ∷ xs) none = ap (λ b. cond b (x ∷ filter test xs) (filter test xs)) (none x (inl refl)) ∙ filter_none test xs (λ y i. none y (inr i))

-- a member of one of two lists is one of both together
pub In_left : {X : Type 0} (xs ys : List X) (x : X) → In x xs → In x (xs ++ ys)
In_left [] ys x i = absurd i
In_left (y ∷ xs) ys x (inl same) = inl same
In_left (y ∷ xs) ys x (inr i) = inr (In_left xs ys x i)

-- so is a member of the other one
pub In_right : {X : Type 0} (xs ys : List X) (x : X) → In x ys → In x (xs ++ ys)
In_right [] ys x i = i
In_right (y ∷ xs) ys x i = inr (In_right xs ys x i)

-- a member of both together is one of them
pub In_either : {X : Type 0} (xs ys : List X) (x : X) → In x (xs ++ ys) → In x xs ⊎ In x ys
In_either [] ys x i = inr i
In_either (y ∷ xs) ys x (inl same) = inl (inl same)
In_either (y ∷ xs) ys x (inr i) = ⊎_elim (λ l. inl (inr l)) (λ r. inr r) (In_either xs ys x i)

-- a member of a list with one element more is one of the list, or that element
pub In_more : {X : Type 0} (xs : List X) (y x : X) → In x (xs ++ y ∷ []) → In x xs ⊎ (x ≡ y)
In_more xs y x i = ⊎_elim (λ j. inl j) (λ j. ⊎_elim (λ same. inr same) (λ none. absurd none) j) (In_either xs (y ∷ []) x i)

-- a member of a prefix is one of the list
pub In_take : {X : Type 0} (n : ℕ) (xs : List X) (x : X) → In x (take n xs) → In x xs
In_take zero xs x i = absurd i
In_take (suc n) [] x i = absurd i
In_take (suc n) (y ∷ xs) x (inl same) = inl same
In_take (suc n) (y ∷ xs) x (inr i) = inr (In_take n xs x i)

-- a member of what is left of a list is one of the list
pub In_drop : {X : Type 0} (n : ℕ) (xs : List X) (x : X) → In x (drop n xs) → In x xs
In_drop zero xs x i = i
In_drop (suc n) [] x i = i
In_drop (suc n) (y ∷ xs) x i = inr (In_drop n xs x i)

-- the image of a member is a member of the images
pub In_map : {X Y : Type 0} (f : X → Y) (xs : List X) (x : X) → In x xs → In (f x) (map f xs)
In_map f [] x i = absurd i
In_map f (y ∷ xs) x (inl same) = inl (ap f same)
In_map f (y ∷ xs) x (inr i) = inr (In_map f xs x i)

-- a member of the images is the image of a member
pub In_from_map : {X Y : Type 0} (f : X → Y) (xs : List X) (y : Y) → In y (map f xs) → (x : X) × In x xs × (y ≡ f x)
In_from_map f [] y i = absurd i
In_from_map f (x ∷ xs) y (inl same) = (x, inl refl, same)
In_from_map f (x ∷ xs) y (inr i) = let r = In_from_map f xs y i in (r.0, inr r.1, r.2)

-- what a member gives is a member of what all give together
pub In_flat_map : {X Y : Type 0} (f : X → List Y) (xs : List X) (x : X) (y : Y) → In x xs → In y (f x) → In y (flat_map f xs)
In_flat_map f [] x y i j = absurd i
In_flat_map f (z ∷ xs) x y (inl same) j = In_left (f z) (flat_map f xs) y (subst (λ x. In y (f x)) same j)
In_flat_map f (z ∷ xs) x y (inr i) j = In_right (f z) (flat_map f xs) y (In_flat_map f xs x y i j)

-- a member of what all give together is given by a member
pub In_from_flat_map : {X Y : Type 0} (f : X → List Y) (xs : List X) (y : Y) → In y (flat_map f xs) → (x : X) × In x xs × In y (f x)
In_from_flat_map f [] y i = absurd i
In_from_flat_map f (x ∷ xs) y i = ⊎_elim (λ h. (x, inl refl, h)) (λ t. let r = In_from_flat_map f xs y t in (r.0, inr r.1, r.2)) (In_either (f x) (flat_map f xs) y i)

-- a member that passes a test is one of those that pass
pub In_filter : {X : Type 0} (p : X → Bool) (xs : List X) (x : X) → In x xs → p x ≡ true → In x (filter p xs)
In_filter p [] x i is = absurd i
In_filter {X} p (y ∷ xs) x i is = by_test (λ j. In_filter p xs x j is) (p y) refl i
  where
    by_test : (In x xs → In x (filter p xs)) → (b : Bool) → p y ≡ b → In x (y ∷ xs) → In x (cond b (y ∷ filter p xs) (filter p xs))
    by_test rest true here (inl same) = inl same
    by_test rest true here (inr j) = inr (rest j)
    by_test rest false here (inl same) = absurd (false≢true (sym here ∙ ap p (sym same) ∙ is))
    by_test rest false here (inr j) = rest j

-- one of those that pass is a member that passes
pub In_from_filter : {X : Type 0} (p : X → Bool) (xs : List X) (x : X) → In x (filter p xs) → In x xs × (p x ≡ true)
In_from_filter p [] x i = absurd i
In_from_filter {X} p (y ∷ xs) x i = by_test (λ j. In_from_filter p xs x j) (p y) refl i
  where
    by_test : (In x (filter p xs) → In x xs × (p x ≡ true)) → (b : Bool) → p y ≡ b → In x (cond b (y ∷ filter p xs) (filter p xs)) → In x (y ∷ xs) × (p x ≡ true)
    by_test rest true here (inl same) = (inl same, ap p same ∙ here)
    by_test rest true here (inr j) = let r = rest j in (inr r.0, r.1)
    by_test rest false here j = let r = rest j in (inr r.0, r.1)
