use Rattle.std.proofs.Common.{sym, ◌∙◌}
use Rattle.dc_talk.specs.Acting.{acting}
use Rattle.dc_worker.proofs.Work.{on_turn}
use Rattle.phase_actors.proofs.Feeders.{fed_empty, fed_told}
use Rattle.phase_actors.proofs.feeding.feed_by.Goals as goal

pub returns-then-is_empty-clause-feeds : goal.returns-then-is_empty-clause-feeds
returns-then-is_empty-clause-feeds g c = fed_empty c.args.centre c.args.feeder.now c.objects.result.now (acting (g.D.Door.shown c.args.door.now) c.args.log.now) c.objects.ensures (sym c.is_empty.ensures ∙ c.if-is_empty.true)

pub returns-clause-feeds : goal.returns-clause-feeds
returns-clause-feeds g c =
    let start = acting (g.D.Door.shown c.args.door.now) c.args.log.now in
    let mid = acting (g.D.Door.shown c.feed.new.door) c.feed.new.log in
    on_turn c.push.result _ _
    (λ told. fed_told c.args.centre c.objects.result.now c.args.feeder.now c.feed.new.self c.in_ok-fed.fed start mid c.push.new.self c.objects.ensures (sym c.is_empty.ensures ∙ c.if-is_empty.false) c.in_ok-fed.ensures.table c.in_ok-fed.ensures.objects c.in_ok-fed.ensures.feeds told)
    c.push.ensures.ok
