use Rattle.std.proofs.Common.{rules, [], ◌∷◌, ap, subst}
use Rattle.dc_talk.specs.declared.ask.Ask.TheVariants.{Report}
use Rattle.dc_talk.specs.declared.say.Say.{Say}
use Rattle.dc_talk.specs.declared.log.Fate.TheVariants.{Unheard}
use Rattle.dc_talk.specs.declared.log.Deed.TheVariants.{Asked}
use Rattle.dc_talk.specs.Acting.{acting, IsCutShort}
use Rattle.script_core.specs.Carrying.{route}
use Rattle.dc_worker.specs.Reports.{said_by, IsToldApart}
use Rattle.dc_worker.specs.Work.{Adds}
use Rattle.dc_worker.proofs.Work.{cut_then}
use Rattle.dc_worker.proofs.Telling.{tells_vector, tells_none}
use Rattle.dc_worker.proofs.tells.tell.Goals as goal

pub returns-in_err-say-in-Has-clause-short : goal.returns-in_err-say-in-Has-clause-short
returns-in_err-say-in-Has-clause-short g c =
    let a = acting (g.D.Door.shown c.args.door.now) c.args.log.now in
    let b = acting (g.D.Door.shown c.ask_report.new.door) c.ask_report.new.log in
    let e = acting (g.D.Door.shown c.ask_unheard.new.door) c.ask_unheard.new.log in
    let cut : IsCutShort a e = cut_then a b e _ c.in_ok-vector.ensures.asks c.in_err-say-in-Has.ensures.short in
    search rules

pub returns-in_ok-say-in-Has-clause-tells : goal.returns-in_ok-say-in-Has-clause-tells
returns-in_ok-say-in-Has-clause-tells g c =
    let a = acting (g.D.Door.shown c.args.door.now) c.args.log.now in
    let b = acting (g.D.Door.shown c.ask_report.new.door) c.ask_report.new.log in
    let e = acting (g.D.Door.shown c.ask_unheard.new.door) c.ask_unheard.new.log in
    tells_vector a b e (route c.args.from c.args.to) c.in-Has.vector _ c.in_ok-say-in-Has.say c.tell_line.result c.in_ok-vector.ensures.asks (ap said_by c.in-Has.is) c.in_ok-say-in-Has.ensures.asks c.tell_line.ensures

pub returns-in-Else-clause-tells : goal.returns-in-Else-clause-tells
returns-in-Else-clause-tells g c =
    let a = acting (g.D.Door.shown c.args.door.now) c.args.log.now in
    let b = acting (g.D.Door.shown c.ask_report.new.door) c.ask_report.new.log in
    let report : Adds a b (Asked c.args.from Report (Unheard c.in-Else.say) ∷ []) = subst (λ (say : Say). Adds a b (Asked c.args.from Report (Unheard say) ∷ [])) (ap said_by c.in-Else.is) c.in_ok-vector.ensures.asks in
    tells_none a b (route c.args.from c.args.to) c.in-Else.say c.tell_line-in-Else.result report (subst IsToldApart c.in-Else.is c.in_ok-vector.ensures.apart) c.tell_line-in-Else.ensures
