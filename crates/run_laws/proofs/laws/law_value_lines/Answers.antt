use Rattle.run_book.specs.Setups.{setup_of}
use Rattle.run_steps.proofs.Chains.{chain, section_chain}
use Rattle.run_laws.proofs.BookLines.{book_tells}
use Rattle.run_laws.proofs.RunLines.{steps_tale, sections_run_tale}
use Rattle.run_laws.proofs.laws.law_value_lines.Goals as goal

pub returns-clause-turns : goal.returns-clause-turns
returns-clause-turns c script run = book_tells c.args.book.now (setup_of script) script run.fits (steps_tale script c.args.book.now run.steps) (λ a client. chain c.args.book.now script a run.steps client)

pub returns-clause-sections : goal.returns-clause-sections
returns-clause-sections c script run = book_tells c.args.book.now (setup_of script) script run.fits (sections_run_tale script c.args.book.now run) (λ a client. section_chain c.args.book.now script a run.steps client)
