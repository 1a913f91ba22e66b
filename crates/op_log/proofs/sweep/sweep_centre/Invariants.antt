use Rattle.std.proofs.Common.{◌≡◌, ◌⊎◌}
use Rattle.std.specs.Map.{values_of}
use Rattle.list_core.specs.Members.{In}
use Rattle.tx_core.specs.declared.tx.Update.{Update}
use Rattle.op_log.specs.declared.logged.Logged.{Logged}
use Rattle.stamp_index.specs.declared.places.Place.{Place}
use Rattle.stamp_index.specs.Places.{reached_of}
use Rattle.op_log.specs.Tables.{IsSwept, MaySwept, StaysSwept}
use Rattle.op_log.proofs.sweep.sweep_centre.Given as goal

abbrev pub invariant-loop-place : goal.invariant-loop-place
invariant-loop-place l = record {
  may : MaySwept l.base (values_of l.slots.entries) l.chains;
  kept : StaysSwept l.base (values_of l.slots.entries) l.fn.chains l.chains;
  swept : (p : Place) → In p (reached_of l.base l.centre l.places.keys) → In p l.place-iterator ⊎ ((x : Logged) → In x (values_of l.slots.entries) → x.number ≡ p.number → (u : Update) → In u x.tx.updates → IsSwept l.base (values_of l.slots.entries) l.chains u.object);
}
