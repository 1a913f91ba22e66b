-- What contracts see of the number of a generation.
use Rattle.std.specs.Prelude.{ℕ, List}
use Rattle.journal_pair.specs.declared.mark.Mark.{Mark}
use Rattle.journal_pair.specs.Numbers.{number_bytes}

-- the number
abbrev pub number_of : Mark → ℕ
number_of m = m.number

-- its bytes
abbrev pub mark_bytes : Mark → List ℕ
mark_bytes m = number_bytes m.number
