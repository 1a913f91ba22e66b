-- Folds of operations in two parts.
use Rattle.std.proofs.Common.{◌≡◌, ◌≤◌, ℕ, List, length, take, drop, sym, ap, ◌∙◌}
use Rattle.std.proofs.lemmas.List.{take-append-drop, take_all}
use Rattle.std.proofs.lemmas.List.Sums.{fold-append}
use Rattle.ids_core.specs.declared.ids.Mark.{Mark}
use Rattle.tx_core.specs.declared.op.Op.{Op}
use Rattle.tx_core.specs.declared.state.State.{State}
use Rattle.tx_core.specs.States.{step, fold_of}

-- the first ones, and then all others
pub in_parts : (s : State) (l : List (Mark × Op)) (n : ℕ) → fold_of (fold_of s (take n l)) (drop n l) ≡ fold_of s l
in_parts s l n = sym (fold-append step s (take n l) (drop n l)) ∙ ap (fold_of s) (take-append-drop n l)

-- all of them
pub in_whole : (s : State) (l : List (Mark × Op)) (n : ℕ) → length l ≤ n → fold_of s (take n l) ≡ fold_of s l
in_whole s l n all = ap (fold_of s) (take_all n l all)
