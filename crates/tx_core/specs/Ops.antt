-- Operations, and what each kind of objects takes of them.
use Rattle.std.specs.Prelude.{ℕ, Bool, true, false, Option, Some, None, List, [], filter_map}
use Rattle.std.specs.Option.{option_map}
use Rattle.ids_core.specs.declared.ids.OpId.{OpId}
use Rattle.ids_core.specs.declared.ids.Mark.{Mark}
use Rattle.ids_core.specs.declared.object.Sort.{Sort}
use Rattle.ids_core.specs.declared.object.Sort.TheVariants.{Counter, Register, Set, Map}
use Rattle.obj_counter.specs.declared.counter.CounterOp.{CounterOp}
use Rattle.obj_register.specs.declared.register.RegisterOp.{RegisterOp}
use Rattle.obj_set.specs.declared.set.SetOp.{SetOp}
use Rattle.obj_map.specs.declared.map.MapOp.{MapOp}
use Rattle.tx_core.specs.declared.op.Op.{Op}
use Rattle.tx_core.specs.declared.op.Op.TheVariants.{Inc, Write, Add, Remove, Put, Erase}

-- the kind of objects that the operation is on
abbrev pub sort_of_op : Op → Sort
sort_of_op (Inc delta) = Counter
sort_of_op (Write word) = Register
sort_of_op (Add word over) = Set
sort_of_op (Remove word over) = Set
sort_of_op (Put key word over) = Map
sort_of_op (Erase key over) = Map

-- the identifiers that the operation is over
abbrev pub over_of : Op → List OpId
over_of (Inc delta) = []
over_of (Write word) = []
over_of (Add word over) = over
over_of (Remove word over) = over
over_of (Put key word over) = over
over_of (Erase key over) = over

-- the operation as one on a counter, if it is one
abbrev pub counter_op : Op → Option CounterOp
counter_op (Inc delta) = Some (record { delta = delta })
counter_op _ = None

-- the operation as one on a register, if it is one
abbrev pub register_op : Op → Option RegisterOp
register_op (Write word) = Some (record { word = word })
register_op _ = None

-- the operation as one on a set, if it is one
abbrev pub set_op : Op → Option SetOp
set_op (Add word over) = Some (record { adds = true; word = word; over = over })
set_op (Remove word over) = Some (record { adds = false; word = word; over = over })
set_op _ = None

-- the operation as one on a map, if it is one
abbrev pub map_op : Op → Option MapOp
map_op (Put key word over) = Some (record { key = key; word = Some word; over = over })
map_op (Erase key over) = Some (record { key = key; word = None; over = over })
map_op _ = None

-- the marked operations that are of a kind, as that kind takes them
abbrev pub marked : {O : Type 0} → (Op → Option O) → List (Mark × Op) → List (Mark × O)
marked of ops = filter_map (λ op. option_map (λ o. (op.0, o)) (of op.1)) ops

-- the word or key that the operation is on, which those of counters and registers have not
abbrev pub name_of : Op → Option (List ℕ)
name_of (Inc delta) = None
name_of (Write word) = None
name_of (Add word over) = Some word
name_of (Remove word over) = Some word
name_of (Put key word over) = Some key
name_of (Erase key over) = Some key

-- an add or a put
abbrev pub is_add : Op → Bool
is_add (Add word over) = true
is_add (Put key word over) = true
is_add _ = false
