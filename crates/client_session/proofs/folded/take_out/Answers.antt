use Rattle.std.proofs.Common.{cond, None, ap, ◌∙◌}
use Rattle.std.specs.Map.{lookup}
use Rattle.ids_core.specs.Ids.{same_object}
use Rattle.ids_core.specs.Same.{same_object-itself}
use Rattle.client_session.proofs.Found.{lookup-gone}
use Rattle.client_session.proofs.folded.take_out.Goals as goal

pub returns-clause-gone : goal.returns-clause-gone
returns-clause-gone c =
    let k = c.args.object.now in
    let es = c.args.folded.now.entries in
    ap (λ t. lookup (same_object k) t.entries) c.pop.ensures.entries ∙ lookup-gone k k es c.len-size.ensures.valid.0 ∙ ap (λ b. cond b None (lookup (same_object k) es)) (same_object-itself k)

pub returns-clause-apart : goal.returns-clause-apart
returns-clause-apart c o apart =
    let k = c.args.object.now in
    let es = c.args.folded.now.entries in
    ap (λ t. lookup (same_object o) t.entries) c.pop.ensures.entries ∙ lookup-gone k o es c.len-size.ensures.valid.0 ∙ ap (λ b. cond b None (lookup (same_object o) es)) apart
