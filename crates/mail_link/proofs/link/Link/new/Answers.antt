use Rattle.std.proofs.Common.{rules}
use Rattle.mail_link.proofs.Keeping.{begun, split_keeps}
use Rattle.mail_link.proofs.link.Link.new.Goals as goal

pub with_rule-requires : goal.with_rule-requires
with_rule-requires g c = begun

pub another-other-requires-clause-rule : goal.another-other-requires-clause-rule
another-other-requires-clause-rule g c = split_keeps _ _ (search rules) (search rules)
