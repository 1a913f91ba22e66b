use Rattle.std.proofs.Common.{[], sym, ap}
use Rattle.dc_talk.specs.Acting.{acting}
use Rattle.script_core.specs.Carrying.{route}
use Rattle.dc_worker.proofs.Sending.{items_of, mails_for}
use Rattle.dc_links.proofs.Sending.{posts_none}
use Rattle.dc_links.proofs.puts.send_round.Goals as goal

pub returns-in-Ended-clause-posts : goal.returns-in-Ended-clause-posts
returns-in-Ended-clause-posts g c =
    let a = acting (g.D.Door.shown c.args.door.now) c.args.log.now in
    let b = acting (g.D.Door.shown c.send_for.new.door) c.send_for.new.log in
    let r = route c.args.from c.args.to in
    posts_none r a b c.args.giver.now.put (mails_for a b r c.in_ok-items.field-0 [] c.in_ok-items.ensures.sends (ap items_of (sym c.in-Ended.is)))
