-- Lists whose elements carry successive numbers.
use Rattle.std.proofs.Common.{◌≡◌, ℕ, zero, suc, ◌+◌, ◌≤◌, ◌<◌, inl, inr, List, [], ◌∷◌, ◌++◌, length, Some, sym, ap, ◌∙◌, arith}
use Rattle.std.specs.Prelude.{slice_get}
use Rattle.std.proofs.lemmas.Option.{none-some, same_Some}
use Rattle.list_core.specs.Members.{In}

-- the images of the elements by f are g of the numbers from a first one on
abbrev pub Numbered : {X Y : Type 0} → (X → Y) → (ℕ → Y) → ℕ → List X → Type 0
Numbered f g first [] = Unit {0}
Numbered f g first (x ∷ xs) = (f x ≡ g first) × Numbered f g (suc first) xs

-- one element more, with the next number
pub numbered_more : {X Y : Type 0} (f : X → Y) (g : ℕ → Y) (first : ℕ) (xs : List X) (x : X) → Numbered f g first xs → f x ≡ g (first + length xs) → Numbered f g first (xs ++ x ∷ [])
numbered_more f g first [] x all here = (here ∙ ap g (omega arith), tt)
numbered_more f g first (y ∷ xs) x all here = (all.0, numbered_more f g (suc first) xs x all.1 (here ∙ ap g (omega arith)))

-- the element at a place
pub numbered_at : {X Y : Type 0} (f : X → Y) (g : ℕ → Y) (first : ℕ) (xs : List X) (p : ℕ) (x : X) → Numbered f g first xs → slice_get xs p ≡ Some x → f x ≡ g (first + p)
numbered_at f g first [] p x all there = absurd (none-some x there)
numbered_at f g first (y ∷ xs) zero x all there = ap f (sym (same_Some y x there)) ∙ (all.0 ∙ ap g (omega arith))
numbered_at f g first (y ∷ xs) (suc p) x all there = numbered_at f g (suc first) xs p x all.1 there ∙ ap g (omega arith)

-- a member, with its number
pub record HasNumber {X Y : Type 0} (f : X → Y) (g : ℕ → Y) (first : ℕ) (xs : List X) (x : X) : Type 0 where
  pub number : ℕ
  pub low : first ≤ number
  pub high : number < first + length xs
  pub is : f x ≡ g number

-- each member has its number
pub numbered_In : {X Y : Type 0} (f : X → Y) (g : ℕ → Y) (first : ℕ) (xs : List X) (x : X) → Numbered f g first xs → In x xs → HasNumber f g first xs x
numbered_In f g first [] x all i = absurd i
numbered_In f g first (y ∷ xs) x all (inl same) = record { number = first; low = omega arith; high = omega arith; is = ap f same ∙ all.0 }
numbered_In f g first (y ∷ xs) x all (inr i) =
    let r = numbered_In f g (suc first) xs x all.1 i in
    record { number = r.number; low = omega (arith, r.low); high = omega (arith, r.high); is = r.is }
