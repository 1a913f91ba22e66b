use Rattle.mail_link.proofs.Keeping.{take_keeps}
use Rattle.mail_link.proofs.link.Link.take.Goals as goal

pub pop_as-requires-clause-rule : goal.pop_as-requires-clause-rule
pop_as-requires-clause-rule g c = (take_keeps _ _ c.taker.invariant.2, λ items views holds at. tt)
