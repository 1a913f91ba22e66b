use Rattle.graph_rights.proofs.Rights.{rights_never_below}
use Rattle.graph_rights.proofs.laws.law_rights_over.Goals as goal

pub returns : goal.returns
returns c = λ owner gains losses nodes set made apart guarded closed. rights_never_below owner gains losses nodes apart guarded made set closed
