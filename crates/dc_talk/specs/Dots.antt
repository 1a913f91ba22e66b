-- The dots of records, and the stamps of a dot.
use Rattle.std.specs.Prelude.{List, map, filter}
use Rattle.ids_core.specs.declared.ids.Dot.{Dot}
use Rattle.ids_core.specs.Ids.{same_dot}
use Rattle.vv_core.specs.declared.stamp.Stamp.{Stamp}
use Rattle.tx_core.specs.declared.tx.Record.{Record}

-- the dots of the records
abbrev pub dots_of : List Record → List Dot
dots_of A = map (λ r. r.tx.dot) A

-- the stamps of the dot, in the order of its records
abbrev pub stamps_of : Dot → List Record → List Stamp
stamps_of d A = map (λ r. r.stamp) (filter (λ r. same_dot r.tx.dot d) A)
