use Rattle.std.proofs.Common.{subst}
use Rattle.dc_talk.specs.Acting.{acting}
use Rattle.dc_worker.specs.Work.{AddsSuch}
use Rattle.script_core.specs.Taps.{fed_tap}
use Rattle.run_table.specs.Taps.{FeedsTap}
use Rattle.run_table.proofs.Taps.{tap_fed}
use Rattle.run_table.proofs.feeding.feed_tap.Goals as goal

pub returns-in-Some-clause-feeds : goal.returns-in-Some-clause-feeds
returns-in-Some-clause-feeds g c =
    let start = acting (g.D.Door.shown c.args.door.now) c.args.log.now in
    let end = acting (g.D.Door.shown c.feed.new.door) c.feed.new.log in
    let tap = c.args.tap.now in
    subst (λ found. AddsSuch (FeedsTap c.args.centre tap (fed_tap found tap)) start end) c.in-Some.is
    (tap_fed c.args.centre tap c.as_slice.result.now c.in_ok-show.field-0 start end c.as_slice.ensures c.in_ok-show.ensures.feeds)

pub returns-in-None-clause-feeds : goal.returns-in-None-clause-feeds
returns-in-None-clause-feeds g c =
    let start = acting (g.D.Door.shown c.args.door.now) c.args.log.now in
    let end = acting (g.D.Door.shown c.feed.new.door) c.feed.new.log in
    let tap = c.args.tap.now in
    subst (λ found. AddsSuch (FeedsTap c.args.centre tap (fed_tap found tap)) start end) c.in-None.is
    (tap_fed c.args.centre tap c.as_slice.result.now c.in_ok-show.field-0 start end c.as_slice.ensures c.in_ok-show.ensures.feeds)
