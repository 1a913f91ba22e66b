use Rattle.std.proofs.Common.{[], ◌∷◌, ◌++◌, ap, ◌∙◌}
use Rattle.op_log.proofs.Numbers.{insert_last}
use Rattle.op_log.proofs.slots.keep.Goals as goal

pub returns-clause-ok : goal.returns-clause-ok
returns-clause-ok c = c.in_ok-insert.ensures.entries ∙ (insert_last _ _ _ c.requires ∙ ap (λ x. c.args.slots.now.entries ++ (c.args.x.number, x) ∷ []) c.in_ok-new.ensures)
