-- Records with the number of deliveries that brought each.
use Rattle.std.specs.Prelude.{ℕ, ◌==◌, List, map, filter}
use Rattle.tx_core.specs.declared.tx.Record.{Record}
use Rattle.dc_talk.specs.declared.sent.Sent.{Sent}

-- a record with so many hops
abbrev pub with_hops : Record → ℕ → Sent
with_hops item hops = record { item = item; hops = hops }

-- the records without their hops
abbrev pub items : List Sent → List Record
items C = map (λ s. s.item) C

-- those that centre e stamped, in order
abbrev pub of_origin : ℕ → List Sent → List Sent
of_origin e C = filter (λ s. s.item.stamp.centre == e) C
