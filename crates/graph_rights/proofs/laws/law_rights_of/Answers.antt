use Rattle.graph_rights.proofs.Sums.{rights_of_values}
use Rattle.graph_rights.proofs.laws.law_rights_of.Goals as goal

pub returns : goal.returns
returns c = rights_of_values
