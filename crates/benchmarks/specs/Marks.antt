-- The marks of the benchmarks.
use Rattle.std.specs.Prelude.{ℕ}
use Rattle.ids_core.specs.declared.ids.Mark.{Mark}

-- that of the first operation of a transaction of client 1 whose rank is its number
abbrev pub mark_of : ℕ → Mark
mark_of number = record { rank = number; id = record { dot = record { client = 1; number = number }; place = 0 } }
