-- Sums that wrap at the ends of an i128.
use Rattle.std.proofs.Common.{◌≡◌, ℕ, ◌≤◌, ℤ, pos, List, length, drop, fold, sym, ap, ◌∙◌}
use Rattle.std.specs.Prelude.{◌-ℤ◌}
use Rattle.std.proofs.Math.IntN.{neg_ℤ}
use Rattle.std.specs.Int.{w128, int_wrap}
use Rattle.std.proofs.lemmas.Int.{int_wrap-add_left, int_wrap-sub_right}
use Rattle.std.proofs.lemmas.List.{drop_all}
use Rattle.obj_counter.specs.Counter.{added, total}
use Rattle.obj_counter.specs.Laws.{fold-added}

-- at the end the values are added up
pub sum_done : (values : List ℤ) (i : ℕ) (sum : ℤ) → length values ≤ i → fold added sum (drop i values) ≡ fold added (pos 0) values → sum ≡ int_wrap w128 (total values)
sum_done values i sum end is = sym (ap (fold added sum) (drop_all i values end)) ∙ (is ∙ fold-added values)

-- a difference of wrapped sums, wrapped
pub wrapped_difference : (a b : ℤ) → int_wrap w128 (int_wrap w128 a -ℤ int_wrap w128 b) ≡ int_wrap w128 (a -ℤ b)
wrapped_difference a b = int_wrap-sub_right w128 (int_wrap w128 a) b ∙ int_wrap-add_left w128 a (neg_ℤ b)

-- so what is less by the one sum than by the other
pub difference_is : {left : ℤ} (s t a b : ℤ) → left ≡ int_wrap w128 (s -ℤ t) → s ≡ int_wrap w128 a → t ≡ int_wrap w128 b → left ≡ int_wrap w128 (a -ℤ b)
difference_is s t a b is first second = is ∙ ((λ i. int_wrap w128 (first i -ℤ second i)) ∙ wrapped_difference a b)
