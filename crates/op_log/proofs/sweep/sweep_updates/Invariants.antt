use Rattle.std.proofs.Common.{take}
use Rattle.std.specs.Map.{values_of}
use Rattle.list_core.specs.Members.{In}
use Rattle.tx_core.specs.declared.tx.Update.{Update}
use Rattle.op_log.specs.Tables.{IsSwept, MaySwept, StaysSwept}
use Rattle.op_log.proofs.sweep.sweep_updates.Given as goal

abbrev pub invariant-loop-update : goal.invariant-loop-update
invariant-loop-update l = record {
  may : MaySwept l.base (values_of l.slots.entries) l.chains;
  kept : StaysSwept l.base (values_of l.slots.entries) l.fn.chains l.chains;
  swept : (u : Update) → In u (take l.update-index l.updates) → IsSwept l.base (values_of l.slots.entries) l.chains u.object;
}
