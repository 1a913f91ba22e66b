use Rattle.mail_link.proofs.Keeping.{join_keeps}
use Rattle.mail_link.proofs.link.Link.close.Goals as goal

pub absorb-requires-clause-rule : goal.absorb-requires-clause-rule
absorb-requires-clause-rule g c = join_keeps _ _ _ _ c.giver.invariant.2 c.taker.invariant.2
