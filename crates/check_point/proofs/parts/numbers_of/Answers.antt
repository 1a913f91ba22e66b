use Rattle.std.proofs.Common.{◌≡◌, ap, sym, ◌∙◌, subst}
use Rattle.std.specs.Prelude.{◌==◌}
use Rattle.std.specs.Cmp.{nat_eq_equiv}
use Rattle.std.specs.Map.{lookup}
use Rattle.check_point.specs.PointParts.{AscendByClient, number_entries}
use Rattle.check_point.proofs.TakingApart.{all_left, next_put, next_apart, numbers_apart}
use Rattle.check_point.proofs.parts.numbers_of.Goals as goal

pub loop-part-init : goal.loop-part-init
loop-part-init c =
    let is : c.into_iter-part-iterator.result.rest.items ≡ c.args.parts = c.into_iter-part-iterator.ensures.into_iter_gives.0 ∙ c.into_vec-part-items.ensures in
    record {
      told = λ q. all_left (λ c. q == c) _ _ _ (ap number_entries is) (ap (lookup (λ c. q == c)) c.new-table.ensures.empty);
      apart = numbers_apart _ (subst AscendByClient (sym is) c.requires);
    }

pub loop-part-preserved : goal.loop-part-preserved
loop-part-preserved c =
    let part = c.in-Some.part in
    let left = ap number_entries c.in-Some.ensures.steps.0 in
    record {
      told = λ q. next_put nat_eq_equiv part.client part.number _ _ q _ _ left c.loop-part.invariant.apart (c.in_ok-put.ensures q) ∙ c.loop-part.invariant.told q;
      apart = next_apart nat_eq_equiv part.client part.number _ _ left c.loop-part.invariant.apart;
    }
