use Rattle.output_laws.proofs.Outputs.{one_output, one_print}
use Rattle.output_laws.proofs.laws.law_one_output.Goals as goal

pub returns-clause-owed : goal.returns-clause-owed
returns-clause-owed c = one_output

pub returns-clause-printed : goal.returns-clause-printed
returns-clause-printed c = one_print
