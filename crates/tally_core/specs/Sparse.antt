-- Finite maps that store no zero.
use Rattle.std.specs.Prelude.{Bool, cond, List, [], ◌∷◌}
use Rattle.std.specs.Option.{unwrap_or}
use Rattle.std.specs.declared.cmp.Ordering.{Ordering}
use Rattle.std.specs.FinMap.{FinMap, empty, get, insert, remove}

module _ {K X : Type 0} {R : K → K → Ordering} (zero : X) (is_zero : X → Bool) where
  -- the value at a key
  abbrev pub at : FinMap R X → K → X
  at m k = unwrap_or (get m k) zero

  -- the map, with x at the key
  unfoldable pub put_at : FinMap R X → K → X → FinMap R X
  put_at m k x = cond (is_zero x) (remove m k) (insert m k x)

  -- the map, with f of what was at the key
  unfoldable pub change : FinMap R X → K → (X → X) → FinMap R X
  change m k f = put_at m k (f (at m k))

  -- the map of the entries, of which the first at a key counts
  abbrev pub from_sparse : List (K × X) → FinMap R X
  from_sparse [] = empty
  from_sparse (e ∷ es) = put_at (from_sparse es) e.0 e.1
