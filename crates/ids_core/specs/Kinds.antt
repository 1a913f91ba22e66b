-- Operations under their marks, and their folds.
use Rattle.std.specs.Prelude.{◌≡◌, List, [], ◌∷◌}
use Rattle.list_core.specs.Members.{In}
use Rattle.ids_core.specs.declared.ids.Mark.{Mark}

-- steps with different identifiers change places
abbrev pub Commutes : {S O : Type 0} → (S → (Mark × O) → S) → Type 0
Commutes {S} {O} step = (s : S) (a b : Mark × O) → (a.0.id ≡ b.0.id → ⊥) → step (step s a) b ≡ step (step s b) a

-- no two operations have one identifier
abbrev pub Distinct : {O : Type 0} → List (Mark × O) → Type 0
Distinct [] = Unit {0}
Distinct {O} (op ∷ ops) = ((other : Mark × O) → In other ops → op.0.id ≡ other.0.id → ⊥) × Distinct ops
