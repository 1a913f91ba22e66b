-- What functions give of filtered and of joined lists.
use Rattle.std.proofs.Common.{◌≡◌, Bool, true, false, cond, inl, inr, List, [], ◌∷◌, ◌++◌, map, Option, refl, ap, ◌∙◌}
use Rattle.std.specs.Prelude.{filter, flat_map}
use Rattle.std.specs.List.{filter_map}
use Rattle.std.proofs.lemmas.List.Elements.{filter_map-append}
use Rattle.list_core.specs.Members.{In}

-- one test on the images is a test on the elements
pub filter-map : {X Y : Type 0} (p : Y → Bool) (f : X → Y) (xs : List X) → filter p (map f xs) ≡ map f (filter (λ x. p (f x)) xs)
filter-map p f [] = refl
filter-map {X} p f (x ∷ xs) = go (p (f x)) (filter-map p f xs)
  where
    go : (b : Bool) → filter p (map f xs) ≡ map f (filter (λ x. p (f x)) xs) → cond b (f x ∷ filter p (map f xs)) (filter p (map f xs)) ≡ map f (cond b (x ∷ filter (λ x. p (f x)) xs) (filter (λ x. p (f x)) xs))
    go true rest = ap (λ l. f x ∷ l) rest
    go false rest = rest

-- what a function gives of lists that are joined
pub filter_map-flat_map : {X Y Z : Type 0} (f : Y → Option Z) (g : X → List Y) (xs : List X) → filter_map f (flat_map g xs) ≡ flat_map (λ x. filter_map f (g x)) xs
filter_map-flat_map f g [] = refl
filter_map-flat_map f g (x ∷ xs) = filter_map-append f (g x) (flat_map g xs) ∙ ap (λ l. filter_map f (g x) ++ l) (filter_map-flat_map f g xs)

-- lists that agree at each member are joined alike
pub flat_map-agree : {X Y : Type 0} (f g : X → List Y) (xs : List X) → ((x : X) → In x xs → f x ≡ g x) → flat_map f xs ≡ flat_map g xs
flat_map-agree f g [] same = refl
flat_map-agree f g (x ∷ xs) same = ap (λ l. l ++ flat_map f xs) (same x (inl refl)) ∙ ap (λ l. g x ++ l) (flat_map-agree f g xs (λ y i. same y (inr i)))
