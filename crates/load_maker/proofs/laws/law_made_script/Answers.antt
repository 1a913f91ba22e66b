use Rattle.load_maker.proofs.MadeLines.{made_back, made_read}
use Rattle.load_maker.proofs.MadeScripts.{made_count, script_back}
use Rattle.load_maker.proofs.laws.law_made_script.Goals as goal

pub returns-clause-lines : goal.returns-clause-lines
returns-clause-lines c = made_back

pub returns-clause-count : goal.returns-clause-count
returns-clause-count c = made_count

pub returns-clause-read : goal.returns-clause-read
returns-clause-read c = made_read

pub returns-clause-script : goal.returns-clause-script
returns-clause-script c = script_back
