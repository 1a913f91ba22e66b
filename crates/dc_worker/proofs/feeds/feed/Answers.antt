use Rattle.std.proofs.Common.{Option, sym, ◌∙◌, subst}
use Rattle.dc_talk.specs.Acting.{acting}
use Rattle.script_core.specs.declared.taps.Show.{Show}
use Rattle.script_core.specs.Feeds.{FeedGives}
use Rattle.dc_worker.specs.Work.{AddsSuch}
use Rattle.dc_worker.proofs.Feeding.{feeds_none, feeds_told}
use Rattle.dc_worker.proofs.feeds.feed.Goals as goal

pub returns-then-is_empty-clause-feeds : goal.returns-then-is_empty-clause-feeds
returns-then-is_empty-clause-feeds g c = feeds_none c.args.centre c.args.objects.now (acting (g.D.Door.shown c.args.door.now) c.args.log.now) (sym c.is_empty.ensures ∙ c.if-is_empty.true)

pub returns-clause-feeds : goal.returns-clause-feeds
returns-clause-feeds g c =
    let start = acting (g.D.Door.shown c.args.door.now) c.args.log.now in
    let mid = acting (g.D.Door.shown c.find_show.new.door) c.find_show.new.log in
    let end = acting (g.D.Door.shown c.find_show.new.door) c.tell_fed.new.log in
    subst (λ (show : Option Show). AddsSuch (FeedGives c.args.centre c.args.objects.now show) start end) (sym c.shown_by.ensures)
    (feeds_told c.args.centre c.args.objects.now c.in_ok-found.found start mid c.tell_fed.new.log (sym c.is_empty.ensures ∙ c.if-is_empty.false) c.in_ok-found.ensures.finds c.in_ok-tell_fed.ensures.ok)
