use Rattle.dc_talk.specs.Acting.{acting, IsCutShort}
use Rattle.dc_worker.specs.Work.{AddsSuch}
use Rattle.dc_worker.proofs.Work.{cut_then, ok_turn, err_turn}
use Rattle.script_core.specs.declared.taps.Found.{Found}
use Rattle.script_core.specs.Feeds.{Fetches, Finds}
use Rattle.dc_worker.proofs.Feeding.{finds_base}
use Rattle.dc_worker.proofs.feeds.find_show.Goals as goal

pub returns-in-Base-clause-finds : goal.returns-in-Base-clause-finds
returns-in-Base-clause-finds g c =
    let start = acting (g.D.Door.shown c.args.door.now) c.args.log.now in
    let mid = acting (g.D.Door.shown c.ask_unheard.new.door) c.ask_unheard.new.log in
    let end = acting (g.D.Door.shown c.fetch_all.new.door) c.fetch_all.new.log in
    let base = c.in-Base.vector in
    let objects = c.args.objects.now in
    ok_turn c.fetch_all.result
    (λ (found : Found). AddsSuch (Fetches c.args.centre base objects found) mid end)
    (λ (found : Found). AddsSuch (Finds c.args.centre objects found) start end)
    (λ found later. finds_base c.args.centre objects c.in_ok-say.say base c.in-Base.folded c.in-Base.trimmed found start mid end c.in_ok-say.ensures.asks c.in-Base.is later)
    c.fetch_all.ensures.fetches

pub returns-in-Base-clause-short : goal.returns-in-Base-clause-short
returns-in-Base-clause-short g c =
    let start = acting (g.D.Door.shown c.args.door.now) c.args.log.now in
    let mid = acting (g.D.Door.shown c.ask_unheard.new.door) c.ask_unheard.new.log in
    let end = acting (g.D.Door.shown c.fetch_all.new.door) c.fetch_all.new.log in
    err_turn c.fetch_all.result (IsCutShort mid end) (IsCutShort start end) (λ cut. cut_then start mid end _ c.in_ok-say.ensures.asks cut) c.fetch_all.ensures.short
