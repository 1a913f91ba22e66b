-- The states of a bundle are those at its base.
use Rattle.std.proofs.Common.{◌≡◌, true, Option, Some, None, List, [], refl, sym, ap, ◌∙◌}
use Rattle.std.specs.Prelude.{◌↔◌, IsSome, is_some, unwrap_or}
use Rattle.std.specs.Map.{lookup}
use Rattle.std.proofs.lemmas.Bool.{false≢true}
use Rattle.list_core.specs.Members.{In}
use Rattle.ids_core.specs.declared.object.ObjectId.{ObjectId}
use Rattle.ids_core.specs.Ids.{same_object}
use Rattle.ids_core.specs.Orders.{object_cmp_total}
use Rattle.ids_core.specs.Same.{same_object-true, same_object-same}
use Rattle.tx_core.specs.declared.tx.Record.{Record}
use Rattle.tx_core.specs.declared.part.StatePart.{StatePart}
use Rattle.tx_core.specs.declared.state.State.{State}
use Rattle.tx_core.specs.States.{empty_of}
use Rattle.dc_talk.specs.Objects.{state_at}
use Rattle.check_point.specs.Points.{PointView, state_of}
use Rattle.check_point.specs.PointParts.{state_entries, AscendByObject, HasStates}
use Rattle.cut_law.specs.Cuts.{ops_inside, AreStatesOf}
use Rattle.centre_gives.proofs.Lookups.{apart_sorted, found, from_found}

module _ (A : List Record) (point : PointView) (parts : List StatePart) (states : (o : ObjectId) → state_of point o ≡ state_at o A point.vector) (order : AscendByObject parts) (told : HasStates point.states parts) where
  -- the state of each part is found by its object
  state_found : (p : StatePart) → In p parts → lookup (same_object p.object) (state_entries parts) ≡ Some p.state
  state_found p i = found (λ (p : StatePart). p.object) (λ (p : StatePart). p.state) same_object same_object-true same_object-same parts p (apart_sorted object_cmp_total (λ (p : StatePart). p.object) parts order) i

  -- the parts are those of all objects with an operation, where the point has a state of just those
  pub states_given : ((o : ObjectId) → IsSome (lookup (same_object o) point.states) ↔ (ops_inside o A point.vector ≡ [] → ⊥)) → AreStatesOf A point.vector parts
  states_given known = record {
    order = order;
    each = λ p i. record {
      some = (known p.object).0 (ap is_some (sym (told p.object) ∙ state_found p i));
      state = ap (λ (f : Option State). unwrap_or f (empty_of p.object.sort)) (sym (state_found p i) ∙ told p.object) ∙ states p.object;
    };
    all = λ o some. there o (lookup (same_object o) (state_entries parts)) refl (ap is_some (told o) ∙ (known o).1 some);
  }
    where
      there : (o : ObjectId) (f : Option State) → lookup (same_object o) (state_entries parts) ≡ f → is_some f ≡ true → (p : StatePart) × In p parts × (p.object ≡ o)
      there o None is some = absurd (false≢true some)
      there o (Some state) is some = from_found (λ (p : StatePart). p.object) (λ (p : StatePart). p.state) same_object same_object-true same_object-same parts o state is
