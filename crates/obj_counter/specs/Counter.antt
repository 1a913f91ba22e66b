-- The sum of deltas.
use Rattle.std.specs.Prelude.{◌≡◌, ℕ, ◌+◌, ℤ, ◌+ℤ◌, pos, unsigned_abs, List, [], ◌∷◌, map}
use Rattle.std.specs.Int.{w128, int_wrap}
use Rattle.ids_core.specs.declared.ids.Mark.{Mark}
use Rattle.obj_counter.specs.declared.counter.CounterOp.{CounterOp}

-- a sum after one more delta
abbrev pub added : ℤ → ℤ → ℤ
added sum delta = int_wrap w128 (sum +ℤ delta)

-- the state after one more operation
abbrev pub step : ℤ → (Mark × CounterOp) → ℤ
step state op = added state op.1.delta

-- the deltas of marked operations
abbrev pub deltas : List (Mark × CounterOp) → List ℤ
deltas ops = map (λ op. op.1.delta) ops

-- the sum of the deltas
abbrev pub total : List ℤ → ℤ
total [] = pos 0
total (delta ∷ deltas) = delta +ℤ total deltas

-- the sum of their sizes, without their signs
abbrev pub sizes : List ℤ → ℕ
sizes [] = 0
sizes (delta ∷ deltas) = unsigned_abs delta + sizes deltas

-- the state of a counter: the sum of the deltas, wrapped at the ends of an i128
abbrev pub IsStateOf : List (Mark × CounterOp) → ℤ → Type 0
IsStateOf ops state = state ≡ int_wrap w128 (total (deltas ops))
