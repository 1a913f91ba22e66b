-- What the tests of a total order tell of one another, and which marks are below which.
use Rattle.std.proofs.Common.{◌≡◌, ◌<◌, true, false, refl, sym, ap, ◌∙◌, arith}
use Rattle.std.specs.Ordering.{is_lt, is_le, is_gt, ordering_reverse, nat_cmp}
use Rattle.std.specs.declared.cmp.Ordering.{Ordering}
use Rattle.std.specs.declared.cmp.Ordering.TheVariants.{Less, Equal, Greater}
use Rattle.std.specs.Cmp.{IsTotalOrder}
use Rattle.std.proofs.lemmas.Cmp.{upto, tied_itself}
use Rattle.ids_core.specs.declared.ids.Mark.{Mark}
use Rattle.ids_core.specs.Orders.{mark_cmp, mark_cmp_total, mark_cmp_same, dot_cmp, dot_cmp_total}

-- only the answer less passes the test for less
pub is_lt-true : (o : Ordering) → is_lt o ≡ true → o ≡ Less
is_lt-true Less is = refl
is_lt-true Equal is = cc
is_lt-true Greater is = cc

-- what is at most as great is not greater
is_le-true : (o : Ordering) → is_le o ≡ true → is_gt o ≡ false
is_le-true Less is = refl
is_le-true Equal is = refl
is_le-true Greater is = cc

-- what is not greater is at most as great
is_gt-false : (o : Ordering) → is_gt o ≡ false → is_le o ≡ true
is_gt-false Less is = refl
is_gt-false Equal is = refl
is_gt-false Greater is = cc

module _ {K : Type 0} {R : K → K → Ordering} (order : IsTotalOrder R) where
  -- nothing is below itself
  pub not_below_itself : (x : K) → is_lt (R x x) ≡ false
  not_below_itself x = ap is_lt (tied_itself order x)

  -- what is below something is below all that this is below
  pub below_through : (x y z : K) → is_lt (R x y) ≡ true → is_lt (R y z) ≡ true → is_lt (R x z) ≡ true
  below_through x y z below above = ap is_lt (order.trans x y z (is_lt-true (R x y) below) (is_lt-true (R y z) above))

  -- what is at most as great as something is so of all that this is so of
  pub at_most_through : (x y z : K) → is_le (R x y) ≡ true → is_le (R y z) ≡ true → is_le (R x z) ≡ true
  at_most_through x y z below above = is_gt-false (R x z) (upto order x y z (is_le-true (R x y) below) (is_le-true (R y z) above))

  -- what is below something is at most as great
  pub at_most_from_below : (x y : K) → is_lt (R x y) ≡ true → is_le (R x y) ≡ true
  at_most_from_below x y below = ap is_le (is_lt-true (R x y) below)

  -- where the first is not below the second, the second is at most as great as the first
  pub at_most_from_not_below : (x y : K) → is_lt (R x y) ≡ false → is_le (R y x) ≡ true
  at_most_from_not_below x y not_below = ap is_le (order.antisymm y x) ∙ turned (R x y) not_below
    where
      turned : (o : Ordering) → is_lt o ≡ false → is_le (ordering_reverse o) ≡ true
      turned Less is = cc
      turned Equal is = refl
      turned Greater is = refl

  -- where the second is at most as great as the first, the first is not below the second
  pub not_below_from_at_most : (x y : K) → is_le (R y x) ≡ true → is_lt (R x y) ≡ false
  not_below_from_at_most x y at_most = ap is_lt (order.antisymm x y) ∙ turned (R y x) at_most
    where
      turned : (o : Ordering) → is_le o ≡ true → is_lt (ordering_reverse o) ≡ false
      turned Less is = refl
      turned Equal is = refl
      turned Greater is = cc

  -- two of which neither is greater are tied
  pub tied_from_at_most : (x y : K) → is_le (R x y) ≡ true → is_le (R y x) ≡ true → R x y ≡ Equal
  tied_from_at_most x y below above = go (R x y) below (sym (ap is_le (order.antisymm y x)) ∙ above)
    where
      go : (o : Ordering) → is_le o ≡ true → is_le (ordering_reverse o) ≡ true → o ≡ Equal
      go Less below above = cc
      go Equal below above = refl
      go Greater below above = cc

-- ---- marks

-- two marks of which neither is greater are one
pub one_mark : (x y : Mark) → is_le (mark_cmp x y) ≡ true → is_le (mark_cmp y x) ≡ true → x ≡ y
one_mark x y below above = mark_cmp_same x y (tied_from_at_most mark_cmp_total x y below above)

-- of two marks the one with the lesser rank is below
pub below_by_rank : (x y : Mark) → x.rank < y.rank → is_lt (mark_cmp x y) ≡ true
below_by_rank x y lesser =
    let rank : nat_cmp x.rank y.rank ≡ Less = grind (arith, lesser) in
    rw rank refl

-- of two marks of one transaction the one with the lesser place is below
pub below_by_place : (x y : Mark) → x.rank ≡ y.rank → x.id.dot ≡ y.id.dot → x.id.place < y.id.place → is_lt (mark_cmp x y) ≡ true
below_by_place x y one_rank one_dot lesser =
    let rank : nat_cmp x.rank y.rank ≡ Equal = grind (arith, one_rank) in
    let dot : dot_cmp x.id.dot y.id.dot ≡ Equal = ap (dot_cmp x.id.dot) (sym one_dot) ∙ tied_itself dot_cmp_total x.id.dot in
    let place : nat_cmp x.id.place y.id.place ≡ Less = grind (arith, lesser) in
    rw (rank, dot, place) refl
