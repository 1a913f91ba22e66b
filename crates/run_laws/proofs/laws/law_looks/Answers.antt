use Rattle.run_laws.proofs.SectionLooks.{section_looks}
use Rattle.run_laws.proofs.TurnLooks.{turn_looks}
use Rattle.run_laws.proofs.laws.law_looks.Goals as goal

pub returns-clause-turns : goal.returns-clause-turns
returns-clause-turns c script range run = turn_looks script c.args.book.now range run.steps

pub returns-clause-sections : goal.returns-clause-sections
returns-clause-sections c script range run = section_looks script c.args.book.now range run.steps
