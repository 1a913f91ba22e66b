use Rattle.std.proofs.Common.{◌≡◌, ◌||◌, drop}
use Rattle.std.specs.List.{list_any}
use Rattle.std.specs.Prelude.{flat_map}
use Rattle.ids_core.specs.declared.object.ObjectId.{ObjectId}
use Rattle.tx_core.specs.States.{fold_of}
use Rattle.tx_core.specs.Operations.{ops_of}
use Rattle.check_point.specs.Operations.{touches}
use Rattle.check_point.specs.Points.{has_state, state_in, state_over}
use Rattle.check_point.proofs.states.changed_states.Given as goal

abbrev pub invariant-loop-tx : goal.invariant-loop-tx
invariant-loop-tx l = record {
  known : (o : ObjectId) → (has_state l.changed.entries o || list_any (touches o) (drop l.tx-index l.txs)) ≡ list_any (touches o) l.txs;
  states : (o : ObjectId) → fold_of (state_over l.changed.entries l.kept.entries o) (flat_map (ops_of o) (drop l.tx-index l.txs)) ≡ fold_of (state_in l.kept.entries o) (flat_map (ops_of o) l.txs);
}
