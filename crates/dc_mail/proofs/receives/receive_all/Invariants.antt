use Rattle.std.proofs.Common.{◌≡◌}
use Rattle.dc_talk.specs.Acting.{acting}
use Rattle.script_core.specs.Mail.{due_in_round, post_after_round}
use Rattle.dc_mail.specs.Rounds.{HasReceived}
use Rattle.dc_mail.proofs.receives.receive_all.Given as goal

abbrev pub invariant-others : goal.invariant-others
invariant-others g l = record {
  place : g.D.Door.place l.door ≡ g.D.Door.place l.fn.door;
  receives : HasReceived due_in_round post_after_round l.before l.to l.fn.posts l.posts (acting (g.D.Door.shown l.fn.door) l.fn.log) (acting (g.D.Door.shown l.door) l.log);
}
