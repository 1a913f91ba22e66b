-- Pieces of texts.
use Rattle.std.proofs.Common.{◌≡◌, ℕ, ◌+◌, ◌++◌, List, Option, Some, None, Result, Ok, Err, OnErr, take, drop, refl, ap, sym, ◌∙◌, append_assoc}
use Rattle.std.proofs.Math.Seq.{take-add}
use Rattle.io_edge.specs.Streams.{LeftBehind, puts_back, puts_behind}

-- two pieces written in a row
pub behind_twice : (text : List ℕ) (done n : ℕ) (old : Option (List ℕ)) → puts_behind (take n (drop done text)) (puts_behind (take done text) old) ≡ puts_behind (take (done + n) text) old
behind_twice text done n None = refl
behind_twice text done n (Some old) = ap Some (append_assoc old (take done text) (take n (drop done text)) ∙ ap (λ xs. old ++ xs) (sym (take-add done n text)))

-- two pieces read in a row
pub back_twice : (first second : List ℕ) (left : Option (List ℕ)) → puts_back first (puts_back second left) ≡ puts_back (first ++ second) left
back_twice first second None = refl
back_twice first second (Some left) = ap Some (sym (append_assoc first second left))

-- whatever came of it, what was put back is behind what is gone
pub left_behind : {T E : Type 0} (r : Result T E) (gone : List ℕ) (old new : Option (List ℕ)) → old ≡ puts_back gone new → OnErr r (LeftBehind old new)
left_behind (Ok x) gone old new e = tt
left_behind (Err x) gone old new e = record { gone = gone; parts = e }
