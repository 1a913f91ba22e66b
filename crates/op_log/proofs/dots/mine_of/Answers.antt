use Rattle.std.proofs.Common.{◌≡◌, sym, subst, rules}
use Rattle.std.specs.declared.ops.Bound.TheVariants.{Included}
use Rattle.std.specs.BTreeMap.Range.{entries_between}
use Rattle.std.specs.Map.{values_of}
use Rattle.ids_core.specs.Orders.{dot_cmp}
use Rattle.op_log.proofs.Owns.{Unseen, first_dot, last_dot, unseen_all, unseen_less, mine_found, mine_none}
use Rattle.op_log.proofs.dots.mine_of.Goals as goal

pub loop-dot-init : goal.loop-dot-init
loop-dot-init c =
    let is : c.range-known.result ≡ entries_between dot_cmp (Included (first_dot c.args.client)) (Included (last_dot c.args.client)) c.args.dots.now.entries = search rules in
    subst (λ l. Unseen c.args.client c.args.at.now (values_of c.args.slots.now.entries) l) (sym is) (unseen_all c.args.client c.args.at.now (values_of c.args.slots.now.entries) c.args.dots.now.entries c.range-known.ensures.ordered c.requires.names c.requires.fits)

pub returns-then-is_own_inside : goal.returns-then-is_own_inside
returns-then-is_own_inside c = mine_found c.args.client c.args.at.now (values_of c.args.slots.now.entries) _ _ c.in-Some.dot.now c.in-Some.number.now c.loop-dot.invariant c.in-Some.ensures.steps c.if-is_own_inside.ensures

pub loop-dot-preserved : goal.loop-dot-preserved
loop-dot-preserved c = unseen_less c.args.client c.args.at.now (values_of c.args.slots.now.entries) _ _ c.in-Some.dot.now c.in-Some.number.now c.loop-dot.invariant c.in-Some.ensures.steps c.if-is_own_inside.ensures

pub returns : goal.returns
returns c = mine_none c.args.client c.args.at.now (values_of c.args.slots.now.entries) _ c.loop-dot.invariant c.in_default.ensures.steps.0
