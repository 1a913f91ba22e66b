use Rattle.output_laws.proofs.Outputs.{run_as_serial, print_as_serial}
use Rattle.output_laws.proofs.laws.law_run_as_serial.Goals as goal

pub returns-clause-owed : goal.returns-clause-owed
returns-clause-owed c = run_as_serial

pub returns-clause-printed : goal.returns-clause-printed
returns-clause-printed c = print_as_serial
