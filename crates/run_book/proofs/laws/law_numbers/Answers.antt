use Rattle.run_book.proofs.Growth.{numbers, grows}
use Rattle.run_book.proofs.laws.law_numbers.Goals as goal

pub returns-clause-numbers : goal.returns-clause-numbers
returns-clause-numbers c = numbers

pub returns-clause-grows : goal.returns-clause-grows
returns-clause-grows c = grows
