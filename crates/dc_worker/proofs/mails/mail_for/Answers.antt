use Rattle.std.proofs.Common.{sym, ap, ◌∙◌}
use Rattle.dc_talk.specs.Acting.{acting}
use Rattle.script_core.specs.Carrying.{route}
use Rattle.dc_worker.proofs.Sending.{items_of, mails_for}
use Rattle.dc_worker.proofs.mails.mail_for.Goals as goal

pub returns-in-Ended-clause-mails : goal.returns-in-Ended-clause-mails
returns-in-Ended-clause-mails g c =
    let a = acting (g.D.Door.shown c.args.door.now) c.args.log.now in
    let b = acting (g.D.Door.shown c.send_for.new.door) c.send_for.new.log in
    mails_for a b (route c.args.from c.args.to) c.in_ok-items.field-0 c.new.result c.in_ok-items.ensures.sends (c.new.ensures ∙ ap items_of (sym c.in-Ended.is))
