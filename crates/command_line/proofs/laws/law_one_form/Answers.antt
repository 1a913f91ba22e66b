use Rattle.command_line.proofs.Spelled.{one_form}
use Rattle.command_line.proofs.laws.law_one_form.Goals as goal

pub returns : goal.returns
returns c = one_form
