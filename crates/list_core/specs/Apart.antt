-- Lists whose elements have different keys.
use Rattle.std.specs.Prelude.{◌≡◌, List, [], ◌∷◌}
use Rattle.list_core.specs.Members.{In}

-- no two elements have one key
abbrev pub Apart : {X K : Type 0} → (X → K) → List X → Type 0
Apart {X} {K} key [] = Unit {0}
Apart {X} {K} key (x ∷ xs) = ((y : X) → In y xs → key x ≡ key y → ⊥) × Apart key xs
