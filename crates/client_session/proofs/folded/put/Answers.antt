use Rattle.std.proofs.Common.{sym, ap, ◌∙◌}
use Rattle.std.specs.Map.{lookup}
use Rattle.ids_core.specs.Ids.{same_object}
use Rattle.client_session.proofs.Found.{lookup-put, lookup-put-own}
use Rattle.client_session.proofs.folded.put.Goals as goal

pub returns-clause-there : goal.returns-clause-there
returns-clause-there c = ap (λ t. lookup (same_object c.args.object.now) t.entries) c.in_ok-put.ensures.entries ∙ lookup-put-own c.args.folded.now c.args.object.now c.args.state

pub returns-clause-apart : goal.returns-clause-apart
returns-clause-apart c o seen apart is = lookup-put c.args.folded.now c.args.object.now o c.args.state seen apart (sym (ap (λ t. lookup (same_object o) t.entries) c.in_ok-put.ensures.entries) ∙ is)
