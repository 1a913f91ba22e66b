-- What a filter_map keeps, and how many elements it keeps before a place.
use Rattle.std.proofs.Common.{◌≡◌, ℕ, zero, suc, ◌+◌, ◌<◌, inl, inr, List, [], ◌∷◌, ◌++◌, length, take, Option, Some, None, refl, sym, ap, ◌∙◌, subst, arith}
use Rattle.std.specs.Prelude.{slice_get}
use Rattle.std.specs.List.{filter_map, cons_option}
use Rattle.std.proofs.lemmas.Option.{none-some, same_Some}
use Rattle.std.proofs.lemmas.List.{length-append}
use Rattle.std.proofs.lemmas.List.Elements.{filter_map-append}
use Rattle.list_core.specs.Members.{In}

-- ---- the members of what it keeps

-- what is given of a member is among what is given of all
pub In_filter_map : {X Y : Type 0} (f : X → Option Y) (xs : List X) (x : X) (y : Y) → In x xs → f x ≡ Some y → In y (filter_map f xs)
In_filter_map f [] x y i is = absurd i
In_filter_map f (z ∷ xs) x y (inl same) is = subst (λ o. In y (cons_option o (filter_map f xs))) (sym (ap f (sym same) ∙ is)) (inl refl)
In_filter_map {X} {Y} f (z ∷ xs) x y (inr i) is = go (f z) (In_filter_map f xs x y i is)
  where
    go : (o : Option Y) → In y (filter_map f xs) → In y (cons_option o (filter_map f xs))
    go None j = j
    go (Some w) j = inr j

-- and what is among it is given of a member
pub In_from_filter_map : {X Y : Type 0} (f : X → Option Y) (xs : List X) (y : Y) → In y (filter_map f xs) → (x : X) × In x xs × (f x ≡ Some y)
In_from_filter_map f [] y i = absurd i
In_from_filter_map {X} {Y} f (z ∷ xs) y i = go (f z) refl i (λ j. In_from_filter_map f xs y j)
  where
    go : (o : Option Y) → f z ≡ o → In y (cons_option o (filter_map f xs)) → (In y (filter_map f xs) → (x : X) × In x xs × (f x ≡ Some y)) → (x : X) × In x (z ∷ xs) × (f x ≡ Some y)
    go None e j rest = let r = rest j in (r.0, inr r.1, r.2)
    go (Some w) e (inl same) rest = (z, inl refl, e ∙ ap Some (sym same))
    go (Some w) e (inr j) rest = let r = rest j in (r.0, inr r.1, r.2)

-- ---- how many it keeps

-- of one element more it keeps as many more as it keeps of that element
pub kept_more : {X C : Type 0} (f : X → Option C) (xs : List X) (x : X) → length (filter_map f (xs ++ x ∷ [])) ≡ length (filter_map f xs) + length (cons_option (f x) [])
kept_more f xs x = ap length (filter_map-append f xs (x ∷ [])) ∙ length-append (filter_map f xs) (cons_option (f x) [])

-- an element that is kept is counted at each later place
pub kept_before : {X C : Type 0} (f : X → Option C) (xs : List X) (q p : ℕ) (x : X) (c : C) → q < p → slice_get xs q ≡ Some x → f x ≡ Some c → length (filter_map f (take q xs)) < length (filter_map f (take p xs))
kept_before f [] q p x c lt there passes = absurd (none-some x there)
kept_before f (y ∷ xs) q zero x c lt there passes = absurd (omega (arith, lt))
kept_before {X} {C} f (y ∷ xs) zero (suc p) x c lt there passes = go (f y) (ap f (same_Some y x there) ∙ passes)
  where
    go : (o : Option C) → o ≡ Some c → 0 < length (cons_option o (filter_map f (take p xs)))
    go None is = absurd (none-some c is)
    go (Some d) is = omega arith
kept_before {X} {C} f (y ∷ xs) (suc q) (suc p) x c lt there passes = go (kept_before f xs q p x c (omega (arith, lt)) there passes) (f y)
  where
    go : length (filter_map f (take q xs)) < length (filter_map f (take p xs)) → (o : Option C) → length (cons_option o (filter_map f (take q xs))) < length (cons_option o (filter_map f (take p xs)))
    go rest None = rest
    go rest (Some d) = omega (arith, rest)

-- ---- two filters that keep the same

-- an element that is kept stands in what is kept, behind as many as are kept before it
placed : {X C : Type 0} (f : X → Option C) (xs : List X) (m : ℕ) (x : X) (c : C) → slice_get xs m ≡ Some x → f x ≡ Some c → slice_get (filter_map f xs) (length (filter_map f (take m xs))) ≡ Some c
placed f [] m x c there passes = absurd (none-some x there)
placed f (y ∷ xs) zero x c there passes = ap (λ o. slice_get (cons_option o (filter_map f xs)) 0) (ap f (same_Some y x there) ∙ passes)
placed {X} {C} f (y ∷ xs) (suc m) x c there passes = go (placed f xs m x c there passes) (f y)
  where
    go : slice_get (filter_map f xs) (length (filter_map f (take m xs))) ≡ Some c → (o : Option C) → slice_get (cons_option o (filter_map f xs)) (length (cons_option o (filter_map f (take m xs)))) ≡ Some c
    go rest None = rest
    go rest (Some d) = rest

-- an element that is kept as c, with so many that are kept before it
pub record IsKept {Y C : Type 0} (g : Y → Option C) (ys : List Y) (c : C) (k : ℕ) : Type 0 where
  pub place : ℕ
  pub item : Y
  pub there : slice_get ys place ≡ Some item
  pub gives : g item ≡ Some c
  pub before : length (filter_map g (take place ys)) ≡ k

-- what is kept is an element of the list
kept_at : {Y C : Type 0} (g : Y → Option C) (ys : List Y) (k : ℕ) (c : C) → slice_get (filter_map g ys) k ≡ Some c → IsKept g ys c k
kept_at g [] k c there = absurd (none-some c there)
kept_at {Y} {C} g (y ∷ ys) k c there = go (λ j r. kept_at g ys j c r) (g y) refl k there
  where
    later : (o : Option C) → g y ≡ o → (k j : ℕ) → length (cons_option o []) + j ≡ k → IsKept g ys c j → IsKept g (y ∷ ys) c k
    later o is k j sum r = record { place = suc r.place; item = r.item; there = r.there; gives = r.gives; before = counted o is sum }
      where
        counted : (o : Option C) → g y ≡ o → length (cons_option o []) + j ≡ k → length (cons_option (g y) (filter_map g (take r.place ys))) ≡ k
        counted None is sum = ap (λ o. length (cons_option o (filter_map g (take r.place ys)))) is ∙ (r.before ∙ omega (arith, sum))
        counted (Some d) is sum = ap (λ o. length (cons_option o (filter_map g (take r.place ys)))) is ∙ omega (arith, r.before, sum)

    go : ((j : ℕ) → slice_get (filter_map g ys) j ≡ Some c → IsKept g ys c j) → (o : Option C) → g y ≡ o → (k : ℕ) → slice_get (cons_option o (filter_map g ys)) k ≡ Some c → IsKept g (y ∷ ys) c k
    go rest None is k there = later None is k k (omega arith) (rest k there)
    go rest (Some d) is zero there = record { place = 0; item = y; there = refl; gives = is ∙ there; before = refl }
    go rest (Some d) is (suc k) there = later (Some d) is (suc k) k (omega arith) (rest k there)

-- where two filters keep the same, an element of one list has its partner in the other, with as many before it
pub paired : {X Y C : Type 0} (f : X → Option C) (g : Y → Option C) (xs : List X) (ys : List Y) (m : ℕ) (x : X) (c : C) → filter_map f xs ≡ filter_map g ys → slice_get xs m ≡ Some x → f x ≡ Some c → IsKept g ys c (length (filter_map f (take m xs)))
paired f g xs ys m x c same there passes = kept_at g ys _ c (ap (λ l. slice_get l (length (filter_map f (take m xs)))) (sym same) ∙ placed f xs m x c there passes)
