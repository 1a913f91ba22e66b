use Rattle.std.proofs.Common.{◌≡◌}
use Rattle.dc_talk.specs.Acting.{acting}
use Rattle.dc_mail.specs.Rounds.{HasSent}
use Rattle.dc_mail.proofs.sends.send_all.Given as goal

abbrev pub invariant-others : goal.invariant-others
invariant-others g l = record {
  place : g.D.Door.place l.door ≡ g.D.Door.place l.fn.door;
  sends : HasSent l.before l.from l.fn.posts l.posts (acting (g.D.Door.shown l.fn.door) l.fn.log) (acting (g.D.Door.shown l.door) l.log);
}
