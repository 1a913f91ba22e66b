use Rattle.std.proofs.Common.{rules, refl}
use Rattle.dc_talk.specs.Acting.{acting, IsCutShort}
use Rattle.dc_talk.proofs.Acting.{cut_unasked, cut_asked}
use Rattle.dc_worker.proofs.Work.{orders}
use Rattle.dc_worker.proofs.asks.ask_only.Goals as goal

pub returns-clause-asks : goal.returns-clause-asks
returns-clause-asks g c =
    let old = acting (g.D.Door.shown c.args.door.now) c.args.log.now in
    let new = acting (g.D.Door.shown c.ask.new.self) c.note_unheard.new.log in
    orders old new c.args.centre c.args.ask c.in_ok-said.said c.requires c.in_ok-said.ensures.asked c.in_ok-note_unheard.ensures.ok

pub returns-in_err-said-clause-short : goal.returns-in_err-said-clause-short
returns-in_err-said-clause-short g c =
    let old = acting (g.D.Door.shown c.args.door.now) c.args.log.now in
    let new = acting (g.D.Door.shown c.ask.new.self) c.args.log.now in
    let cut : IsCutShort old new = cut_unasked old new refl c.in_err-said.ensures.none in
    search rules

pub returns-in_err-note_unheard-clause-short : goal.returns-in_err-note_unheard-clause-short
returns-in_err-note_unheard-clause-short g c =
    let old = acting (g.D.Door.shown c.args.door.now) c.args.log.now in
    let new = acting (g.D.Door.shown c.ask.new.self) c.note_unheard.new.log in
    let cut : IsCutShort old new = cut_asked old new _ _ c.in_err-note_unheard.ensures.err c.in_ok-said.ensures.asked in
    search rules
