use Rattle.std.proofs.Common.{sym, ◌∙◌}
use Rattle.client_session.proofs.Changing.{refused}
use Rattle.client_session.proofs.session.Session.update.Goals as goal

pub returns-in-Err-clause-refused : goal.returns-in-Err-clause-refused
returns-in-Err-clause-refused c = λ known.
    let ends = c.in-Err.ensures.refused known in
    record { ends = sym (c.in-None.ensures.none ∙ ends); after = c.op_of.ensures.cache ∙ refused _ c.args.object.now c.args.change.now c.in-Err.refusal ends }
