use Rattle.std.proofs.Common.{◌≡◌, ◌<◌, ℕ}
use Rattle.std.specs.Map.{values_of}
use Rattle.list_core.specs.Members.{In}
use Rattle.tx_core.specs.declared.tx.Update.{Update}
use Rattle.op_log.specs.declared.logged.Logged.{Logged}
use Rattle.stamp_index.specs.declared.places.Place.{Place}
use Rattle.stamp_index.specs.Places.{reached_of}
use Rattle.op_log.specs.Tables.{IsSwept, MaySwept}
use Rattle.op_log.proofs.sweep.sweep_chains.Given as goal

abbrev pub invariant-loop-centre : goal.invariant-loop-centre
invariant-loop-centre l = record {
  may : MaySwept l.base (values_of l.slots.entries) l.chains;
  swept : (centre : ℕ) → centre < l.centre → (p : Place) → In p (reached_of l.base centre l.places.keys) → (x : Logged) → In x (values_of l.slots.entries) → x.number ≡ p.number → (u : Update) → In u x.tx.updates → IsSwept l.base (values_of l.slots.entries) l.chains u.object;
}
