use Rattle.std.proofs.Common.{◌≡◌, ap, sym, ◌∙◌, subst}
use Rattle.ids_core.specs.Ids.{same_object}
use Rattle.ids_core.specs.Same.{same_object_equivalence}
use Rattle.std.specs.Map.{lookup}
use Rattle.check_point.specs.PointParts.{AscendByObject, state_entries}
use Rattle.check_point.proofs.TakingApart.{all_left, next_put, next_apart, states_apart}
use Rattle.check_point.proofs.parts.states_of.Goals as goal

pub loop-part-init : goal.loop-part-init
loop-part-init c =
    let is : c.into_iter-part-iterator.result.rest.items ≡ c.args.parts = c.into_iter-part-iterator.ensures.into_iter_gives.0 ∙ c.into_vec-part-items.ensures in
    record {
      told = λ q. all_left (same_object q) _ _ _ (ap state_entries is) (ap (lookup (same_object q)) c.new-table.ensures.empty);
      apart = states_apart _ (subst AscendByObject (sym is) c.requires);
    }

pub loop-part-preserved : goal.loop-part-preserved
loop-part-preserved c =
    let part = c.in-Some.part in
    let left = ap state_entries c.in-Some.ensures.steps.0 in
    record {
      told = λ q. next_put same_object_equivalence part.object part.state _ _ q _ _ left c.loop-part.invariant.apart (c.in_ok-put.ensures q) ∙ c.loop-part.invariant.told q;
      apart = next_apart same_object_equivalence part.object part.state _ _ left c.loop-part.invariant.apart;
    }
