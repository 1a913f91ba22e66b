-- What was last noted of each client, in the order of the clients.
use Rattle.std.specs.Prelude.{ℕ, zero, suc, ◌==◌, cond, List, slice_get, Option, Some, None}
use Rattle.vv_core.specs.declared.stamp.Stamp.{Stamp}
use Rattle.dup_guard.specs.declared.guard.Last.{Last}

-- what was last noted of a client, counted from 1
abbrev pub last_at : List Last → ℕ → Option Last
last_at lasts zero = None
last_at lasts (suc i) = slice_get lasts i

-- its number, 0 for none
abbrev pub number_in : Option Last → ℕ
number_in None = 0
number_in (Some last) = last.number

-- its stamp, where a number was noted
abbrev pub stamp_in : Option Last → Option Stamp
stamp_in None = None
stamp_in (Some last) = cond (last.number == 0) None (Some last.stamp)

-- the number last noted of a client, 0 for none
abbrev pub number_of : List Last → ℕ → ℕ
number_of lasts client = number_in (last_at lasts client)

-- the stamp first noted with that number
abbrev pub stamp_of : List Last → ℕ → Option Stamp
stamp_of lasts client = stamp_in (last_at lasts client)
