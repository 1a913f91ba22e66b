-- Identifiers, marks and lists that test the same are equal.
use Rattle.std.proofs.Common.{◌≡◌, ℕ, ◌+◌, ◌≤◌, ◌<◌, Bool, true, ◌==◌, ◌&&◌, List, [], ◌∷◌, ◌++◌, length, take, get_or, sym, ap, ◌∙◌, arith}
use Rattle.std.specs.Bool.{Decides}
use Rattle.std.specs.Cmp.Lexicographic.{pointwise_decides}
use Rattle.std.proofs.lemmas.Bool.{and_parts, and_from}
use Rattle.std.proofs.lemmas.Bool.Decides.{Decides-eqb}
use Rattle.std.proofs.lemmas.List.{take_more, take_all}
use lib.Pointwise.{pointwise}
use Rattle.ids_core.specs.declared.ids.Mark.{Mark}
use Rattle.ids_core.specs.declared.ids.OpId.{OpId}
use Rattle.ids_core.specs.Ids.{same_dot}
use Rattle.ids_core.specs.Same.{same_dot-true, same_dot-same}

-- the same transaction and place
abbrev pub same_id : OpId → OpId → Bool
same_id a b = same_dot a.dot b.dot && (a.place == b.place)

-- the same rank and identifier
abbrev pub same_mark : Mark → Mark → Bool
same_mark a b = (a.rank == b.rank) && same_id a.id b.id

pub id_decides : (a b : OpId) → Decides (same_id a b) (a ≡ b)
id_decides a b = (told, back)
  where
    told : same_id a b ≡ true → a ≡ b
    told is =
        let parts = and_parts (same_dot a.dot b.dot) (a.place == b.place) is in
        let dot = same_dot-true a.dot b.dot parts.0 in
        let place = (Decides-eqb a.place b.place).0 parts.1 in
        λ i. record { dot = dot i; place = place i }

    back : a ≡ b → same_id a b ≡ true
    back is = and_from (same_dot a.dot b.dot) (a.place == b.place) (same_dot-same a.dot b.dot (ap (λ x. x.dot) is)) ((Decides-eqb a.place b.place).1 (ap (λ x. x.place) is))

-- a mark that tests the same is one
pub same_mark-true : (a b : Mark) → same_mark a b ≡ true → a ≡ b
same_mark-true a b is =
    let parts = and_parts (a.rank == b.rank) (same_id a.id b.id) is in
    let rank = (Decides-eqb a.rank b.rank).0 parts.0 in
    let id = (id_decides a.id b.id).0 parts.1 in
    λ i. record { rank = rank i; id = id i }

-- identifiers that test the same one by one are the same
pub same_ids-true : (left right : List OpId) → pointwise same_id left right ≡ true → left ≡ right
same_ids-true left right is = (pointwise_decides id_decides left right).0 is

module _ {X : Type 0} (left right : List X) where
  -- one element more that is the same
  pub alike_more : (i : ℕ) (x y : X) → i < length left → i < length right → x ≡ get_or left i x → y ≡ get_or right i y → x ≡ y → take i left ≡ take i right → take (i + 1) left ≡ take (i + 1) right
  alike_more i x y in_left in_right left_is right_is same before =
      let one : get_or left i x ≡ get_or right i y = sym left_is ∙ (same ∙ right_is) in
      take_more left i x in_left ∙ ((λ j. before j ++ one j ∷ []) ∙ sym (take_more right i y in_right))

  -- all of them
  pub alike_all : (i : ℕ) → length left ≤ i → length left ≡ length right → take i left ≡ take i right → left ≡ right
  alike_all i all same alike =
      let last : length right ≤ i = omega (arith, all, same) in
      sym (take_all i left all) ∙ (alike ∙ take_all i right last)
