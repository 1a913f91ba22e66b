-- The states of objects, by kind.
use Rattle.std.specs.Coded.{codes}
use Rattle.std.specs.Prelude.{Bool, ℕ, List, [], Option, Some, None, pos, fold}
use Rattle.ids_core.specs.declared.ids.OpId.{OpId}
use Rattle.ids_core.specs.declared.ids.Mark.{Mark}
use Rattle.ids_core.specs.declared.object.Sort.{Sort}
use Rattle.ids_core.specs.declared.object.Sort.TheVariants as sort
use Rattle.ids_core.specs.Ids.{same_sort}
use Rattle.tally_core.specs.Live.{live_ids, live_names}
use Rattle.obj_counter.specs.Counter as counter
use Rattle.obj_register.specs.Registers as register
use Rattle.obj_set.specs.Sets as set
use Rattle.obj_map.specs.Maps as map
use Rattle.tx_core.specs.declared.op.Op.{Op}
use Rattle.tx_core.specs.declared.state.State.{State}
use Rattle.tx_core.specs.declared.state.State.TheVariants.{Counter, Register, Set, Map}
use Rattle.tx_core.specs.declared.state.Value.{Value}
use Rattle.tx_core.specs.declared.state.Value.TheVariants.{Number, Word, Words, Pairs}
use Rattle.tx_core.specs.Ops.{sort_of_op, counter_op, register_op, set_op, map_op}

-- the state of an object of that kind before any operation
abbrev pub empty_of : Sort → State
empty_of sort.Counter = Counter (pos 0)
empty_of sort.Register = Register None
empty_of sort.Set = Set set.start
empty_of sort.Map = Map map.start

-- the kind of the object
abbrev pub sort_of : State → Sort
sort_of (Counter s) = sort.Counter
sort_of (Register s) = sort.Register
sort_of (Set s) = sort.Set
sort_of (Map s) = sort.Map

-- the operation is of the state's kind
abbrev pub is_of : State → Op → Bool
is_of s op = same_sort (sort_of s) (sort_of_op op)

-- the state of a kind after an operation of that kind, or unchanged where there is none
abbrev pub after : {S O : Type 0} → (S → (Mark × O) → S) → S → Mark → Option O → S
after step s mark None = s
after step s mark (Some op) = step s (mark, op)

-- the state after a marked operation; one of another kind changes nothing
abbrev pub step : State → (Mark × Op) → State
step (Counter s) op = Counter (after counter.step s op.0 (counter_op op.1))
step (Register s) op = Register (after register.step s op.0 (register_op op.1))
step (Set s) op = Set (after set.step s op.0 (set_op op.1))
step (Map s) op = Map (after map.step s op.0 (map_op op.1))

-- the state after marked operations, in their order
abbrev pub fold_of : State → List (Mark × Op) → State
fold_of = fold step

-- what a read gives
abbrev pub value_of : State → Value
value_of (Counter s) = Number s
value_of (Register s) = Word (register.word_of s)
value_of (Set s) = Words (live_names s)
value_of (Map s) = Pairs (map.pairs s)

-- the live identifiers of a word or key, and none at counters and registers
abbrev pub tags_of : State → List ℕ → List OpId
tags_of (Counter s) word = []
tags_of (Register s) word = []
tags_of (Set s) word = live_ids s word
tags_of (Map s) word = live_ids s word

-- how states are stored: what the type of a value that holds states, or what is made of them, names as its code
pub ruleset state_codes = (codes, set.set_code, map.map_code)
