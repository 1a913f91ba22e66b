use Rattle.std.proofs.Common.{rules, [], ◌∷◌, refl, sym, subst}
use Rattle.dc_talk.specs.declared.ask.Ask.TheVariants.{Report}
use Rattle.dc_talk.specs.declared.say.Say.{Say}
use Rattle.dc_talk.specs.declared.log.Fate.TheVariants.{Unheard}
use Rattle.dc_talk.specs.declared.log.Deed.TheVariants.{Asked}
use Rattle.dc_talk.specs.Acting.{acting, IsCutShort}
use Rattle.dc_talk.proofs.Acting.{cut_unasked, cut_asked}
use Rattle.dc_worker.specs.Work.{Adds}
use Rattle.dc_worker.proofs.Work.{adds_ask}
use Rattle.dc_worker.proofs.reports.ask_report.Goals as goal

pub returns-clause-asks : goal.returns-clause-asks
returns-clause-asks g c =
    let old = acting (g.D.Door.shown c.args.door.now) c.args.log.now in
    let new = acting (g.D.Door.shown c.ask.new.self) c.note_unheard.new.log in
    subst (λ (say : Say). Adds old new (Asked c.args.centre Report (Unheard say) ∷ [])) (sym c.in_ok-reported.ensures.said) (adds_ask old new _ _ _ c.requires c.in_ok-said.ensures.asked c.in_ok-note_unheard.ensures.ok)

pub returns-in_err-said-clause-short : goal.returns-in_err-said-clause-short
returns-in_err-said-clause-short g c =
    let old = acting (g.D.Door.shown c.args.door.now) c.args.log.now in
    let new = acting (g.D.Door.shown c.ask.new.self) c.args.log.now in
    let cut : IsCutShort old new = cut_unasked old new refl c.in_err-said.ensures.none in
    search rules

pub returns-in_err-reported-clause-short : goal.returns-in_err-reported-clause-short
returns-in_err-reported-clause-short g c =
    let old = acting (g.D.Door.shown c.args.door.now) c.args.log.now in
    let new = acting (g.D.Door.shown c.ask.new.self) c.args.log.now in
    let cut : IsCutShort old new = cut_asked old new _ _ refl c.in_ok-said.ensures.asked in
    search rules

pub returns-in_err-note_unheard-clause-short : goal.returns-in_err-note_unheard-clause-short
returns-in_err-note_unheard-clause-short g c =
    let old = acting (g.D.Door.shown c.args.door.now) c.args.log.now in
    let new = acting (g.D.Door.shown c.ask.new.self) c.note_unheard.new.log in
    let cut : IsCutShort old new = cut_asked old new _ _ c.in_err-note_unheard.ensures.err c.in_ok-said.ensures.asked in
    search rules
