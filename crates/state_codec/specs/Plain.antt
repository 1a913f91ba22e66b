-- States of objects, taken apart.
use Rattle.std.specs.FinMap.{entries}
use Rattle.tally_core.specs.Listing.{AreStored}
use Rattle.tx_core.specs.declared.state.State.{State}
use Rattle.tx_core.specs.declared.state.State.TheVariants as kind
use Rattle.state_codec.specs.declared.state.PlainState.{PlainState}
use Rattle.state_codec.specs.declared.state.PlainState.TheVariants.{Counter, Register, Set, Map}

-- the sum of a counter, the greatest write of a register, and the tallies of a set or a map by their places
abbrev pub plain_of : State → PlainState
plain_of (kind.Counter s) = Counter s
plain_of (kind.Register s) = Register s
plain_of (kind.Set s) = Set (entries s)
plain_of (kind.Map s) = Map (entries s)

-- tallies are those of a state
abbrev pub HasState : PlainState → Type 0
HasState (Counter sum) = Unit {0}
HasState (Register last) = Unit {0}
HasState (Set tallies) = AreStored tallies
HasState (Map tallies) = AreStored tallies
