-- Elements of lists, of images, and of lists that part.
use Rattle.std.proofs.Common.{◌≡◌, ℕ, zero, suc, inl, inr, List, [], ◌∷◌, ◌++◌, length, map, Some, refl, ap, arith}
use Rattle.std.specs.Prelude.{slice_get}
use Rattle.std.proofs.lemmas.Option.{none-some, same_Some}
use Rattle.list_core.specs.Members.{In}

-- ---- first elements

abbrev rest_of : {X : Type 0} → List X → List X
rest_of [] = []
rest_of (x ∷ xs) = xs

-- equal lists begin alike
pub same_head : {X : Type 0} {x y : X} {xs ys : List X} → x ∷ xs ≡ y ∷ ys → x ≡ y
same_head {X} {x} {y} is = same_Some x y (ap (λ l. slice_get l 0) is)

-- and go on alike
pub same_rest : {X : Type 0} {x y : X} {xs ys : List X} → x ∷ xs ≡ y ∷ ys → xs ≡ ys
same_rest is = ap rest_of is

-- a list with an element is not empty
pub nil-cons : {X : Type 0} (y : X) (ys : List X) → [] ≡ y ∷ ys → ⊥
nil-cons y ys is = none-some y (ap (λ l. slice_get l 0) is)

-- ---- images

-- an element among images is the image of the one at its place
pub get_unmap : {X Y : Type 0} (f : X → Y) (xs : List X) (p : ℕ) (y : Y) → slice_get (map f xs) p ≡ Some y → (x : X) × (slice_get xs p ≡ Some x) × (f x ≡ y)
get_unmap f [] p y at = absurd (none-some y at)
get_unmap f (x ∷ xs) zero y at = (x, refl, same_Some (f x) y at)
get_unmap f (x ∷ xs) (suc p) y at = get_unmap f xs p y at

-- a list whose images part at one, parts there
pub record Parts {X Y : Type 0} (f : X → Y) (xs : List X) (ys : List Y) (y : Y) : Type 0 where
  pub before : List X
  pub one : X
  pub later : List X
  pub whole : xs ≡ before ++ one ∷ later
  pub front : map f before ≡ ys
  pub here : f one ≡ y

pub map_parts : {X Y : Type 0} (f : X → Y) (xs : List X) (ys : List Y) (y : Y) (zs : List Y) → map f xs ≡ ys ++ y ∷ zs → Parts f xs ys y
map_parts f [] [] y zs is = absurd (nil-cons y zs is)
map_parts f [] (z ∷ ys) y zs is = absurd (nil-cons z (ys ++ y ∷ zs) is)
map_parts f (x ∷ xs) [] y zs is = record { before = []; one = x; later = xs; whole = refl; front = refl; here = same_head is }
map_parts f (x ∷ xs) (z ∷ ys) y zs is =
    let rest = map_parts f xs ys y zs (same_rest is) in
    record { before = x ∷ rest.before; one = rest.one; later = rest.later; whole = ap (λ l. x ∷ l) rest.whole; front = (λ i. same_head is i ∷ rest.front i); here = rest.here }

-- images by functions that agree at each member
pub map_agree : {X Y : Type 0} (f g : X → Y) (xs : List X) → ((x : X) → In x xs → f x ≡ g x) → map f xs ≡ map g xs
map_agree f g [] same = refl
map_agree f g (x ∷ xs) same = λ i. same x (inl refl) i ∷ map_agree f g xs (λ y j. same y (inr j)) i

-- images of joined lists part as they do
pub parted_images : {X Y : Type 0} (f : X → Y) (xs ys : List X) (ps ms : List Y) → length xs ≡ length ps → map f (xs ++ ys) ≡ ps ++ ms → (map f xs ≡ ps) × (map f ys ≡ ms)
parted_images f [] ys [] ms same are = (refl, are)
parted_images f [] ys (p ∷ ps) ms same are = absurd (omega (arith, same))
parted_images f (x ∷ xs) ys [] ms same are = absurd (omega (arith, same))
parted_images f (x ∷ xs) ys (p ∷ ps) ms same are =
    let rest = parted_images f xs ys ps ms (omega (arith, same)) (same_rest are) in
    (λ i. same_head are i ∷ rest.0 i, rest.1)
