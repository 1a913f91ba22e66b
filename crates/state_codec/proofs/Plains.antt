-- What states are taken apart into determines them.
use Rattle.std.proofs.Common.{◌≡◌, ℤ, pos, List, [], Option, None, ap}
use Rattle.std.specs.FinMap.{same_entries_map}
use Rattle.ids_core.specs.declared.ids.Mark.{Mark}
use Rattle.obj_register.specs.declared.register.RegisterOp.{RegisterOp}
use Rattle.obj_map.specs.declared.put.Put.{Put}
use Rattle.tally_core.specs.declared.place.Place.{Place}
use Rattle.tally_core.specs.declared.place.Cell.{Cell}
use Rattle.tx_core.specs.declared.state.State.{State}
use Rattle.tx_core.specs.declared.state.State.TheVariants as kind
use Rattle.state_codec.specs.declared.state.PlainState.{PlainState}
use Rattle.state_codec.specs.declared.state.PlainState.TheVariants.{Counter, Register, Set, Map}
use Rattle.state_codec.specs.Plain.{plain_of}

-- what stands in plain data of each kind
sum_in : PlainState → ℤ
sum_in (Counter sum) = sum
sum_in (Register last) = pos 0
sum_in (Set tallies) = pos 0
sum_in (Map tallies) = pos 0

last_in : PlainState → Option (Mark × RegisterOp)
last_in (Counter sum) = None
last_in (Register last) = last
last_in (Set tallies) = None
last_in (Map tallies) = None

members_in : PlainState → List (Place × Cell (Unit {0}))
members_in (Counter sum) = []
members_in (Register last) = []
members_in (Set tallies) = tallies
members_in (Map tallies) = []

entries_in : PlainState → List (Place × Cell Put)
entries_in (Counter sum) = []
entries_in (Register last) = []
entries_in (Set tallies) = []
entries_in (Map tallies) = tallies

pub same_plain : (state other : State) → plain_of state ≡ plain_of other → state ≡ other
unfolding sum_in last_in members_in entries_in
same_plain (kind.Counter s) (kind.Counter t) e = ap kind.Counter (ap sum_in e)
same_plain (kind.Register s) (kind.Register t) e = ap kind.Register (ap last_in e)
same_plain (kind.Set s) (kind.Set t) e = ap kind.Set (same_entries_map s t (ap members_in e))
same_plain (kind.Map s) (kind.Map t) e = ap kind.Map (same_entries_map s t (ap entries_in e))
same_plain (kind.Counter s) (kind.Register t) e = cc
same_plain (kind.Counter s) (kind.Set t) e = cc
same_plain (kind.Counter s) (kind.Map t) e = cc
same_plain (kind.Register s) (kind.Counter t) e = cc
same_plain (kind.Register s) (kind.Set t) e = cc
same_plain (kind.Register s) (kind.Map t) e = cc
same_plain (kind.Set s) (kind.Counter t) e = cc
same_plain (kind.Set s) (kind.Register t) e = cc
same_plain (kind.Set s) (kind.Map t) e = cc
same_plain (kind.Map s) (kind.Counter t) e = cc
same_plain (kind.Map s) (kind.Register t) e = cc
same_plain (kind.Map s) (kind.Set t) e = cc
