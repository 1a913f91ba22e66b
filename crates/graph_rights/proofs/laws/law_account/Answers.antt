use Rattle.graph_rights.proofs.Accounts.{never_below}
use Rattle.graph_rights.proofs.laws.law_account.Goals as goal

pub returns : goal.returns
returns c = never_below
