use Rattle.mail_link.proofs.Keeping.{put_keeps}
use Rattle.mail_link.proofs.link.Link.put.Goals as goal

pub push_as-requires-clause-rule : goal.push_as-requires-clause-rule
push_as-requires-clause-rule g c = λ n. put_keeps n _ _ _ c.giver.invariant.2
