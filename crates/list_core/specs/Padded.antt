-- The first numbers of a place of a fixed length, with 0 behind them.
use Rattle.std.specs.Prelude.{◌≡◌, ◌≤◌, ℕ, ◌-◌, List, ◌++◌, length, take, drop, replicate}
use Rattle.std.proofs.Common.{ap, sym, ◌∙◌, arith}
use Rattle.std.proofs.lemmas.List.{take-append-drop, length-take-le}

-- the place is of that length, and all behind its first numbers is 0
pub record IsPadded (room : ℕ) (place : List ℕ) (count : ℕ) : Type 0 where
  pub few : count ≤ room
  pub long : length place ≡ room
  pub behind : drop count place ≡ replicate (room - count) 0

-- the place and the count come back from the first numbers alone
pub repadded : {V : Type 0} (make : List ℕ → ℕ → V) (room : ℕ) (place : List ℕ) (count : ℕ) → IsPadded room place count → make (take count place ++ replicate (room - length (take count place)) 0) (length (take count place)) ≡ make place count
repadded make room place count h =
    let le : count ≤ length place = omega arith in
    let same : length (take count place) ≡ count = length-take-le count place le in
    ap (λ n. make (take count place ++ replicate (room - n) 0) n) same ∙ ap (λ xs. make xs count) (ap (λ ys. take count place ++ ys) (sym h.behind) ∙ take-append-drop count place)
