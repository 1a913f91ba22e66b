use Rattle.std.proofs.Common.{◌+◌, refl, ◌∙◌, ap}
use Rattle.pair_centre.proofs.Following.{takes_none, takes_next, stopped_at}
use Rattle.pair_centre.proofs.replaying.replay.Goals as goal

pub loop-item-init : goal.loop-item-init
loop-item-init c = record { settings = refl; place = refl; takes = takes_none c.args.centre.settings c.args.centre }

pub loop-item-preserved : goal.loop-item-preserved
loop-item-preserved c =
    let inv = c.loop-item.invariant in
    let took = c.in-Ok-true.ensures in
    record {
      settings = took.settings ∙ inv.settings;
      place = ap (λ n. n + 1) inv.place;
      takes = takes_next c.args.centre.settings c.loop-item.centre.settings c.args.centre c.loop-item.centre c.take_item.new.centre c.args.items.now c.loop-item.item-index c.item-item.result inv.settings c.loop-item-test.true c.item-item.is inv.takes (took.taken c.in-Ok-true.field-0-test);
    }

pub returns-in-Ok-false-clause-stopped : goal.returns-in-Ok-false-clause-stopped
returns-in-Ok-false-clause-stopped c =
    let inv = c.loop-item.invariant in
    let took = c.in-Ok-false.ensures in
    stopped_at c.args.centre.settings c.loop-item.centre.settings c.args.centre c.loop-item.centre c.args.items.now c.loop-item.item-index c.loop-item.place c.item-item.result inv.settings inv.settings inv.place c.loop-item-test.true c.item-item.is inv.takes (took.none c.in-Ok-false.field-0-test)
