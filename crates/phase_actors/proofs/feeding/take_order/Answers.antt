use Rattle.std.proofs.Common.{sym, subst}
use Rattle.dc_talk.specs.Acting.{acting}
use Rattle.dc_worker.proofs.Work.{on_turn}
use Rattle.script_core.specs.Steps.{IsCount}
use Rattle.run_table.proofs.Taps.{feed_within}
use Rattle.phase_actors.specs.Taps.{AreFeeders}
use Rattle.phase_actors.proofs.Feeders.{order_feeds, order_feeds_none}
use Rattle.phase_actors.proofs.feeding.take_order.Goals as goal

pub feed_at-requires : goal.feed_at-requires
feed_at-requires g c = subst (λ n. IsCount n c.in-Some.centre) (sym c.requires.centres) (feed_within c.args.scene.script.now.n c.in-Some.centre c.args.step.now c.in-Some.ensures c.requires.fits)

pub returns-in-Some-clause-takes : goal.returns-in-Some-clause-takes
returns-in-Some-clause-takes g c =
    let start = acting (g.D.Door.shown c.args.door.now) c.args.log.now in
    let end = acting (g.D.Door.shown c.feed_at.new.door) c.feed_at.new.log in
    let taps = c.args.scene.taps.now in
    let are : AreFeeders (g.D.Door.shown c.args.door.now).centres taps c.args.feeders.now.items = subst (λ n. AreFeeders n taps c.args.feeders.now.items) (sym c.requires.centres) c.requires.feeders in
    on_turn c.feed_at.result _ _
    (λ feeds. order_feeds taps c.args.scene.script.now.n c.in-Some.centre c.args.step.now c.args.feeders.now.items c.feed_at.new.feeders.items start end c.in-Some.ensures (feeds taps are))
    c.feed_at.ensures.feeds

pub returns-in-None-clause-takes : goal.returns-in-None-clause-takes
returns-in-None-clause-takes g c =
    let start = acting (g.D.Door.shown c.args.door.now) c.args.log.now in
    let end = acting (g.D.Door.shown c.operate.new.door) c.operate.new.log in
    on_turn c.operate.result _ _
    (λ operates. order_feeds_none c.args.scene.taps.now c.args.scene.script.now.n c.args.step.now c.args.feeders.now.items start end c.in-None.ensures operates)
    c.operate.ensures.operates
