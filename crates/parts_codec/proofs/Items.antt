-- The item with whose bytes bytes begin is the only one.
use Rattle.std.proofs.Common.{◌≡◌, ℕ, List, ◌++◌, length, Option, Some, None, ap, subst}
use Rattle.std.proofs.Math.Logic.{∥∥₁_prop, ∥∥₁_elim}
use Rattle.std.specs.Coded.{Coded, Coded-set, codes}
use Rattle.state_codec.specs.Fronts.{IsFront}
use Rattle.parts_codec.specs.declared.plain.PlainCentre.{PlainCentre}
use Rattle.parts_codec.specs.declared.parts_item.PartsItem.{PartsItem}
use Rattle.parts_codec.specs.Spelling.{centre_bytes, IsSpelledCentre}
use Rattle.parts_codec.specs.Items.{item_bytes}

-- items of one centre are one
same_item : (a b : PartsItem) → a.centre ≡ b.centre → a ≡ b
same_item a b same =
    let P : PlainCentre → Type 0 = λ centre. (fits : ∥ IsSpelledCentre centre ∥₁) → a ≡ record { centre = centre; fits = fits } in
    subst P same (λ fits. (λ i. record { centre = a.centre; fits = ∥∥₁_prop a.fits fits i })) b.fits

-- what is found is one value
some_pair : {A B : Type 0} (x y : A) (m n : B) → (let one : Option (A × B) = Some (x, m) in let other : Option (A × B) = Some (y, n) in one ≡ other) → (x ≡ y) × (m ≡ n)
some_pair {A} {B} x y m n h =
    let p : A × B = (x, m) in
    let q : A × B = (y, n) in
    let same : p ≡ q = cc in
    (ap (λ (z : A × B). z.0) same, ap (λ (z : A × B). z.1) same)

-- or none
not_none : {A : Type 0} (x : A) → None ≡ Some x → ⊥
not_none x h = absurd (cc h)

-- what was found can be told apart
found_code : Coded (Option (PlainCentre × ℕ))
found_code = hlevel codes

module _ (bytes : List ℕ) where
  -- the centre that was found is that of the item
  only_item : (found : Option (PlainCentre × ℕ)) (item : PartsItem) (rest : List ℕ) → IsFront IsSpelledCentre centre_bytes bytes found → bytes ≡ item_bytes item ++ rest
      → found ≡ Some (item.centre, length (item_bytes item))
  only_item found item rest front begins = ∥∥₁_elim item.fits (Coded-set found_code _ _) (λ fits. front.only item.centre rest fits begins)

  -- so the item that was found is that one
  pub item_found : (item other : PartsItem) (count : ℕ) (rest : List ℕ) → IsFront IsSpelledCentre centre_bytes bytes (Some (item.centre, count)) → bytes ≡ item_bytes other ++ rest
      → (let one : Option (PartsItem × ℕ) = Some (item, count) in one ≡ Some (other, length (item_bytes other)))
  item_found item other count rest front begins =
      let both = some_pair item.centre other.centre count (length (item_bytes other)) (only_item (Some (item.centre, count)) other rest front begins) in
      let same = same_item item other both.0 in
      (λ i. Some (same i, both.1 i))

  -- where none was found, they begin with none
  pub none_found : (item : PartsItem) (rest : List ℕ) → IsFront IsSpelledCentre centre_bytes bytes None → bytes ≡ item_bytes item ++ rest → ⊥
  none_found item rest front begins = not_none (item.centre, length (item_bytes item)) (only_item None item rest front begins)
