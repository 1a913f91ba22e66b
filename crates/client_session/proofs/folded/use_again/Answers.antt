use Rattle.std.proofs.Common.{ap, ◌∙◌}
use Rattle.std.specs.Map.{lookup}
use Rattle.ids_core.specs.Ids.{same_object}
use Rattle.client_session.proofs.Found.{lookup-promoted}
use Rattle.client_session.proofs.folded.use_again.Goals as goal

pub returns-clause-same : goal.returns-clause-same
returns-clause-same c o = ap (λ t. lookup (same_object o) t.entries) c.promote.ensures.entries ∙ lookup-promoted c.args.object.now o c.args.folded.now.entries
