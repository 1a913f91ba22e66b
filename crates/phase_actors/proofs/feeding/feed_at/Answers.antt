use Rattle.std.proofs.Common.{refl, arith}
use Rattle.dc_talk.specs.Acting.{acting}
use Rattle.dc_worker.proofs.Work.{on_turn}
use Rattle.phase_actors.proofs.Feeders.{among_fed, among_none}
use Rattle.phase_actors.proofs.feeding.feed_at.Goals as goal

pub returns-then-place-len-clause-feeds : goal.returns-then-place-len-clause-feeds
returns-then-place-len-clause-feeds g c = λ taps are. among_none (g.D.Door.shown c.args.door.now).centres taps c.args.feeders.now.items c.args.centre (acting (g.D.Door.shown c.args.door.now) c.args.log.now) c.requires.0 c.requires.1 (omega (arith, c.if-place-len.true, c.len.ensures)) are

pub returns-clause-feeds : goal.returns-clause-feeds
returns-clause-feeds g c =
    let feeders = c.args.feeders.now.items in
    let n = (g.D.Door.shown c.args.door.now).centres in
    let start = acting (g.D.Door.shown c.args.door.now) c.args.log.now in
    let end = acting (g.D.Door.shown c.feed_by.new.door) c.feed_by.new.log in
    on_turn c.feed_by.result _ _
    (λ feeds taps are. among_fed n taps feeders _ c.args.centre c.index_mut.result.now c.feed_by.new.feeder start end c.requires.0 (omega (arith, c.if-place-len.false, c.len.ensures)) c.index_mut.ensures.value refl are feeds)
    c.feed_by.ensures.feeds
