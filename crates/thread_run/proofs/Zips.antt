-- Lists side by side, place by place.
use Rattle.std.proofs.Common.{◌≡◌, ℕ, zero, suc, ◌+◌, List, [], ◌∷◌, ◌++◌, map, length, drop, Some, refl, ap, ◌∙◌, subst, arith}
use Rattle.std.specs.Prelude.{slice_get, flat_map}
use Rattle.std.specs.List.{AllZip}
use Rattle.std.proofs.Math.Seq.{drop-append_seam}
use Rattle.std.proofs.lemmas.Option.{none-some, same_Some}

-- an element with its partner at a place of another list
pub record HasPartner {X Y : Type 0} (R : X → Y → Type 0) (ys : List Y) (p : ℕ) (x : X) : Type 0 where
  pub partner : Y
  pub there : slice_get ys p ≡ Some partner
  pub related : R x partner

module _ {X Y : Type 0} (R : X → Y → Type 0) where
  -- each element has its partner
  pub zip_get : (xs : List X) (ys : List Y) (p : ℕ) (x : X) → AllZip R xs ys → slice_get xs p ≡ Some x → HasPartner R ys p x
  zip_get [] ys p x z there = absurd (none-some x there)
  zip_get (a ∷ xs) [] p x z there = absurd z
  zip_get (a ∷ xs) (b ∷ ys) zero x z there = record { partner = b; there = refl; related = subst (λ a. R a b) (same_Some a x there) z.0 }
  zip_get (a ∷ xs) (b ∷ ys) (suc p) x z there = let h = zip_get xs ys p x z.1 there in record { partner = h.partner; there = h.there; related = h.related }

  -- lists behind lists
  pub zip_append : (xs more : List X) (ys later : List Y) → AllZip R xs ys → AllZip R more later → AllZip R (xs ++ more) (ys ++ later)
  zip_append [] more [] later z w = w
  zip_append [] more (y ∷ ys) later z w = absurd z
  zip_append (x ∷ xs) more [] later z w = absurd z
  zip_append (x ∷ xs) more (y ∷ ys) later z w = (z.0, zip_append xs more ys later z.1 w)

  -- what two functions give alike is the same list
  pub zip_same : {A : Type 0} (f : X → A) (g : Y → A) (xs : List X) (ys : List Y) → ((x : X) (y : Y) → R x y → g y ≡ f x) → AllZip R xs ys → map g ys ≡ map f xs
  zip_same f g [] [] same z = refl
  zip_same f g [] (y ∷ ys) same z = absurd z
  zip_same f g (x ∷ xs) [] same z = absurd z
  zip_same f g (x ∷ xs) (y ∷ ys) same z = λ i. same x y z.0 i ∷ zip_same f g xs ys same z.1 i

  module _ {A B : Type 0} (S : A → B → Type 0) where
    -- the images of partners are partners
    pub zip_map : (f : X → A) (g : Y → B) (xs : List X) (ys : List Y) → ((x : X) (y : Y) → R x y → S (f x) (g y)) → AllZip R xs ys → AllZip S (map f xs) (map g ys)
    zip_map f g [] [] each z = tt
    zip_map f g [] (y ∷ ys) each z = absurd z
    zip_map f g (x ∷ xs) [] each z = absurd z
    zip_map f g (x ∷ xs) (y ∷ ys) each z = (each x y z.0, zip_map f g xs ys each z.1)

-- so it is of lists that they give
pub zip_flat : {X Y A B : Type 0} (R : X → Y → Type 0) (S : A → B → Type 0) (f : X → List A) (g : Y → List B) (xs : List X) (ys : List Y) → ((x : X) (y : Y) → R x y → AllZip S (f x) (g y)) → AllZip R xs ys → AllZip S (flat_map f xs) (flat_map g ys)
zip_flat R S f g [] [] each z = tt
zip_flat R S f g [] (y ∷ ys) each z = absurd z
zip_flat R S f g (x ∷ xs) [] each z = absurd z
zip_flat R S f g (x ∷ xs) (y ∷ ys) each z = zip_append S (f x) (flat_map f xs) (g y) (flat_map g ys) (each x y z.0) (zip_flat R S f g xs ys each z.1)

-- partners of partners
pub zip_then : {X Y Z : Type 0} (R : X → Y → Type 0) (S : Y → Z → Type 0) (T : X → Z → Type 0) (xs : List X) (ys : List Y) (zs : List Z) → ((x : X) (y : Y) (z : Z) → R x y → S y z → T x z) → AllZip R xs ys → AllZip S ys zs → AllZip T xs zs
zip_then R S T [] [] [] both z w = tt
zip_then R S T [] [] (c ∷ zs) both z w = absurd w
zip_then R S T [] (b ∷ ys) zs both z w = absurd z
zip_then R S T (a ∷ xs) [] zs both z w = absurd z
zip_then R S T (a ∷ xs) (b ∷ ys) [] both z w = absurd w
zip_then R S T (a ∷ xs) (b ∷ ys) (c ∷ zs) both z w = (both a b c z.0 w.0, zip_then R S T xs ys zs both z.1 w.1)

-- ---- places

-- an element that gives this at a place of the images
pub record HasSource {X Y : Type 0} (f : X → Y) (xs : List X) (p : ℕ) (y : Y) : Type 0 where
  pub source : X
  pub there : slice_get xs p ≡ Some source
  pub gives : f source ≡ y

-- each image has its element
pub get_source : {X Y : Type 0} (f : X → Y) (xs : List X) (p : ℕ) (y : Y) → slice_get (map f xs) p ≡ Some y → HasSource f xs p y
get_source f [] p y there = absurd (none-some y there)
get_source f (x ∷ xs) zero y there = record { source = x; there = refl; gives = same_Some (f x) y there }
get_source f (x ∷ xs) (suc p) y there = let h = get_source f xs p y there in record { source = h.source; there = h.there; gives = h.gives }

-- the image of an element at its place
pub get_image : {X Y : Type 0} (f : X → Y) (xs : List X) (p : ℕ) (x : X) → slice_get xs p ≡ Some x → slice_get (map f xs) p ≡ Some (f x)
get_image f [] p x there = absurd (none-some x there)
get_image f (y ∷ xs) zero x there = ap (λ z. Some (f z)) (same_Some y x there)
get_image f (y ∷ xs) (suc p) x there = get_image f xs p x there

-- a place behind a list
pub get_behind : {X : Type 0} (xs ys : List X) (k p q : ℕ) → length xs ≡ k → q ≡ k + p → slice_get (xs ++ ys) q ≡ slice_get ys p
get_behind [] ys k p q long is = let same : q ≡ p = omega arith in ap (slice_get ys) same
get_behind (x ∷ xs) ys zero p q long is = absurd (omega arith)
get_behind (x ∷ xs) ys (suc k) p zero long is = absurd (omega (arith, is))
get_behind (x ∷ xs) ys (suc k) p (suc q) long is = get_behind xs ys k p q (omega arith) (omega (arith, is))

-- what stands behind a list
pub drop_front : {X : Type 0} (xs ys all : List X) → all ≡ xs ++ ys → drop (length xs) all ≡ ys
drop_front xs ys all is = ap (drop (length xs)) is ∙ drop-append_seam xs ys
