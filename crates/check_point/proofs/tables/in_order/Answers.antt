use Rattle.std.proofs.Common.{◌≡◌, sym, ap, ◌∙◌, subst}
use Rattle.std.specs.List.{IsDistinct}
use Rattle.std.specs.Map.{lookup, keys_of}
use Rattle.std.specs.BTreeMap.{is_at}
use Rattle.check_point.proofs.TakingApart.{all_left, none_left, next_copied, next_apart}
use Rattle.check_point.proofs.tables.in_order.Goals as goal

pub loop-key-init : goal.loop-key-init
loop-key-init g c =
    let is = c.into_iter-key-iterator.ensures.into_iter_gives ∙ c.iter-key-items.ensures.rest in
    record {
      told = λ q. all_left (g.K.PartialEq.eq q) _ _ _ is (ap (lookup (is_at (g.K.Ord.cmp q))) c.new-sorted.ensures.empty);
      apart = subst (λ es. IsDistinct g.K.PartialEq.eq (keys_of es)) (sym is) c.iter-key-items.ensures.unique;
    }

pub loop-key-preserved : goal.loop-key-preserved
loop-key-preserved g c =
    let k = c.in-Some.key.now in
    let v = c.in-Some.value.now in
    let same : c.in_ok-clone.field-0 ≡ v = c.requires v c.in_ok-clone.field-0 c.in_ok-clone.ensures.cases in
    record {
      told = λ q. next_copied g.met.K.Eq.laws k v c.in_ok-clone.field-0 _ _ q _ _ _ c.in-Some.ensures.steps c.loop-key.invariant.apart (c.in_ok-put_in_order.ensures q) (g.met.K.Ord.matches_eq k q) same ∙ c.loop-key.invariant.told q;
      apart = next_apart g.met.K.Eq.laws k v _ _ c.in-Some.ensures.steps c.loop-key.invariant.apart;
    }

pub returns : goal.returns
returns g c key = none_left (g.K.PartialEq.eq key) _ _ _ c.in-None.ensures.steps.0 (c.loop-key.invariant.told key)
