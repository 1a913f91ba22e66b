use Rattle.std.proofs.Common.{◌≡◌, List, rules, refl, sym, ap, ◌∙◌, subst}
use Rattle.dc_talk.specs.Acting.{acting, IsCutShort}
use Rattle.dc_talk.proofs.Acting.{cut_none}
use Rattle.dc_talk.specs.declared.sent.Sent.{Sent}
use Rattle.script_core.specs.Carrying.{route}
use Rattle.script_core.specs.Mail.{Post}
use Rattle.dc_worker.specs.Brings.{BringsPart}
use Rattle.dc_worker.proofs.Work.{err_turn}
use Rattle.dc_mail.specs.Posts.{PostPart}
use Rattle.dc_mail.proofs.Parts.{on_err, part_none, part_taken}
use Rattle.dc_mail.proofs.spot.Spot.bring_round.Goals as goal

pub returns-in_err-frames-clause-short : goal.returns-in_err-frames-clause-short
returns-in_err-frames-clause-short g c =
    let a = acting (g.D.Door.shown c.args.door.now) c.args.log.now in
    let cut : IsCutShort a a = cut_none (g.D.Door.shown c.args.door.now) c.args.log.now c.args.log.now refl in
    search rules

pub returns-in_err-frames-clause-part : goal.returns-in_err-frames-clause-part
returns-in_err-frames-clause-part g c =
    let a = acting (g.D.Door.shown c.args.door.now) c.args.log.now in
    let old : Post = record { waits = c.self.inside.waits.items; inlet = c.self.inside.inlet } in
    let new : Post = record { waits = c.take_first.new.waits.items; inlet = c.self.inside.inlet } in
    let same : old ≡ new = ap (λ (waits : List Sent). record { waits = waits; inlet = c.self.inside.inlet }) (sym c.in_err-frames.ensures.err) in
    let here : PostPart (route c.args.from c.args.at) old new a a = subst (λ (new : Post). PostPart (route c.args.from c.args.at) old new a a) same (part_none (route c.args.from c.args.at) old a a (cut_none (g.D.Door.shown c.args.door.now) c.args.log.now c.args.log.now refl)) in
    on_err c.from_residual.result (PostPart (route c.args.from c.args.at) c.args.self.now new a a) (subst (λ (old : Post). PostPart (route c.args.from c.args.at) old new a a) c.self.view_is here)

pub returns-clause-part : goal.returns-clause-part
returns-clause-part g c =
    let a = acting (g.D.Door.shown c.args.door.now) c.args.log.now in
    let e = acting (g.D.Door.shown c.bring.new.door) c.bring.new.log in
    let old : Post = record { waits = c.self.inside.waits.items; inlet = c.self.inside.inlet } in
    let new : Post = record { waits = c.take_first.new.waits.items; inlet = c.bring.new.inlet } in
    err_turn c.bring.result (BringsPart (route c.args.from c.args.at) c.in_ok-frames.frames.items c.self.inside.inlet c.bring.new.inlet a e) (PostPart (route c.args.from c.args.at) c.args.self.now new a e)
    (λ got. subst (λ (old : Post). PostPart (route c.args.from c.args.at) old new a e) c.self.view_is (part_taken (route c.args.from c.args.at) old new c.in_ok-frames.frames.items a e c.in_ok-frames.ensures.taken c.in_ok-frames.ensures.rest got))
    c.bring.ensures.part
