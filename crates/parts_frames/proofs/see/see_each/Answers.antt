use Rattle.std.proofs.Common.{arith, subst}
use Rattle.std.specs.Prelude.{All}
use Rattle.std.proofs.lemmas.List.{take_all}
use Rattle.std.proofs.lemmas.List.Elements.{All-more}
use Rattle.parts_frames.proofs.see.see_each.Goals as goal

pub loop-item-preserved : goal.loop-item-preserved
loop-item-preserved g c =
    All-more (λ item. g.T.See.is_ranged item → g.T.See.has_bytes item) c.args.items.now c.loop-item.item-index c.item-item.result c.loop-item-test.true c.loop-item.invariant
    (subst (λ item. g.T.See.is_ranged item → g.T.See.has_bytes item) c.item-item.is c.see.ensures)

pub returns : goal.returns
returns g c = subst (All (λ item. g.T.See.is_ranged item → g.T.See.has_bytes item)) (take_all c.loop-item.item-index c.args.items.now (omega (arith, c.loop-item-test.false))) c.loop-item.invariant
