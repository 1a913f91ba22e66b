-- The rights of a holder of a bounded counter, by the values of its cells.
use Rattle.std.specs.Prelude.{ℕ, ℤ, ◌-ℤ◌, List, take, drop}
use Rattle.obj_counter.specs.Counter.{total}

-- the first values, one for each holder, count for it, and those behind them against it
abbrev pub rights_of : ℕ → List ℤ → ℤ
rights_of holders values = total (take holders values) -ℤ total (drop holders values)
