use Rattle.std.proofs.Common.{◌-◌, refl, arith}
use Rattle.dc_talk.specs.Acting.{acting}
use Rattle.dc_worker.proofs.Work.{on_turn, err_turn}
use Rattle.run_table.proofs.Taps.{one_fed, fed_none, put_back}
use Rattle.run_table.proofs.feeding.feed_one.Goals as goal

pub returns-then-place-len-clause-feeds : goal.returns-then-place-len-clause-feeds
returns-then-place-len-clause-feeds g c = fed_none c.args.taps.now.items c.args.centre (acting (g.D.Door.shown c.args.door.now) c.args.log.now) (omega (arith, c.if-place-len.true, c.len.ensures))

pub returns-clause-feeds : goal.returns-clause-feeds
returns-clause-feeds g c =
    let start = acting (g.D.Door.shown c.args.door.now) c.args.log.now in
    let end = acting (g.D.Door.shown c.feed_tap.new.door) c.feed_tap.new.log in
    on_turn c.feed_tap.result _ _
    (λ feeds. one_fed c.args.taps.now.items _ c.args.centre c.index_mut.result.now c.feed_tap.new.tap start end c.requires.0 (omega (arith, c.if-place-len.false, c.len.ensures)) c.index_mut.ensures.value refl feeds)
    c.feed_tap.ensures.feeds

pub returns-clause-stays : goal.returns-clause-stays
returns-clause-stays g c =
    err_turn c.feed_tap.result _ _
    (λ same. put_back c.args.taps.now.items _ (c.args.centre - 1) c.index_mut.result.now c.feed_tap.new.tap c.index_mut.ensures.value same refl)
    c.feed_tap.ensures.stays
