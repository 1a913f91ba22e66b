use Rattle.std.proofs.Common.{◌≡◌, ◌||◌, drop}
use Rattle.std.specs.List.{list_any}
use Rattle.ids_core.specs.declared.object.ObjectId.{ObjectId}
use Rattle.ids_core.specs.Ids.{same_object}
use Rattle.tx_core.specs.States.{fold_of}
use Rattle.tx_core.specs.Operations.{ops_from}
use Rattle.check_point.specs.Points.{has_state, state_over}
use Rattle.check_point.proofs.states.change_by.Given as goal

abbrev pub invariant-loop-place : goal.invariant-loop-place
invariant-loop-place l = record {
  known : (o : ObjectId) → (has_state l.changed.entries o || list_any (λ u. same_object u.object o) (drop l.place l.update-items)) ≡ (has_state l.fn.changed.entries o || list_any (λ u. same_object u.object o) l.tx.updates);
  states : (o : ObjectId) → fold_of (state_over l.changed.entries l.kept.entries o) (ops_from o l.tx.rank l.tx.dot l.place (drop l.place l.update-items)) ≡ fold_of (state_over l.fn.changed.entries l.kept.entries o) (ops_from o l.tx.rank l.tx.dot 0 l.tx.updates);
}
