use Rattle.std.proofs.Common.{rules, ap}
use Rattle.dc_talk.specs.Acting.{acting, IsCutShort}
use Rattle.script_core.specs.Carrying.{route}
use Rattle.dc_worker.specs.Reports.{said_by}
use Rattle.dc_worker.specs.Sends.{need_of}
use Rattle.dc_worker.proofs.Work.{cut_then}
use Rattle.dc_worker.proofs.Sending.{asks_for_vector}
use Rattle.dc_worker.proofs.sends.hand_on.Goals as goal

pub returns-in_err-say-in-Has-clause-short : goal.returns-in_err-say-in-Has-clause-short
returns-in_err-say-in-Has-clause-short g c =
    let a = acting (g.D.Door.shown c.args.door.now) c.args.log.now in
    let b = acting (g.D.Door.shown c.ask_report.new.door) c.ask_report.new.log in
    let e = acting (g.D.Door.shown c.ask_unheard.new.door) c.ask_unheard.new.log in
    let cut : IsCutShort a e = cut_then a b e _ c.in_ok-vector.ensures.asks c.in_err-say-in-Has.ensures.short in
    search rules

pub returns-in_ok-say-in-Has-clause-asks : goal.returns-in_ok-say-in-Has-clause-asks
returns-in_ok-say-in-Has-clause-asks g c =
    let a = acting (g.D.Door.shown c.args.door.now) c.args.log.now in
    let b = acting (g.D.Door.shown c.ask_report.new.door) c.ask_report.new.log in
    let e = acting (g.D.Door.shown c.ask_unheard.new.door) c.ask_unheard.new.log in
    asks_for_vector a b e (route c.args.from c.args.to) (need_of c.args.need c.args.from) c.ask_of-ask.result c.in-Has.vector _ c.in_ok-say-in-Has.say c.handed_of.result c.in_ok-vector.ensures.asks (ap said_by c.in-Has.is) c.ask_of-ask.ensures c.in_ok-say-in-Has.ensures.asks c.handed_of.ensures
