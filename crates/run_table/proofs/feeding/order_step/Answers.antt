use Rattle.dc_talk.specs.Acting.{acting}
use Rattle.dc_worker.proofs.Work.{on_turn}
use Rattle.run_table.proofs.Taps.{feed_within, order_fed, order_other}
use Rattle.std.proofs.Common.{refl, subst}
use Rattle.script_core.specs.Steps.{IsCount}
use Rattle.run_table.proofs.feeding.order_step.Goals as goal

pub feed_one-requires : goal.feed_one-requires
feed_one-requires g c = subst (λ n. IsCount n c.in-Some.centre) c.requires.centres (feed_within c.args.n c.in-Some.centre c.args.step.now c.in-Some.ensures c.requires.fits)

pub returns-in-Some-clause-operates : goal.returns-in-Some-clause-operates
returns-in-Some-clause-operates g c =
    let start = acting (g.D.Door.shown c.args.door.now) c.args.log.now in
    let end = acting (g.D.Door.shown c.feed_one.new.door) c.feed_one.new.log in
    on_turn c.feed_one.result _ _
    (λ feeds. order_fed c.args.n c.in-Some.centre c.args.step.now c.args.taps.now.items c.feed_one.new.taps.items start end c.in-Some.ensures feeds)
    c.feed_one.ensures.feeds

pub returns-in-None-clause-operates : goal.returns-in-None-clause-operates
returns-in-None-clause-operates g c =
    let start = acting (g.D.Door.shown c.args.door.now) c.args.log.now in
    let end = acting (g.D.Door.shown c.operate.new.door) c.operate.new.log in
    on_turn c.operate.result _ _
    (λ operates. order_other c.args.n c.args.step.now c.args.taps.now.items c.args.taps.now.items start end c.in-None.ensures refl operates)
    c.operate.ensures.operates
