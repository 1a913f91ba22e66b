use Rattle.std.proofs.Common.{◌≡◌, Some, All, false, take}
use Rattle.std.specs.Map.{lookup}
use Rattle.ids_core.specs.declared.object.ObjectId.{ObjectId}
use Rattle.ids_core.specs.Ids.{same_object}
use Rattle.tx_core.specs.declared.state.State.{State}
use Rattle.client_session.proofs.folded.let_all_go.Given as goal

abbrev pub invariant-loop-update : goal.invariant-loop-update
invariant-loop-update l = (o : ObjectId) (seen : State) → lookup (same_object o) l.folded.entries ≡ Some seen → (lookup (same_object o) l.fn.folded.entries ≡ Some seen) × All (λ u. same_object u.object o ≡ false) (take l.update-index l.updates)
