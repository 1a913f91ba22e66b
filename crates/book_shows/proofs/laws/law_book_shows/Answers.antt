use Rattle.book_shows.proofs.Books.{section_shows, turn_shows}
use Rattle.book_shows.proofs.laws.law_book_shows.Goals as goal

pub returns-clause-turns : goal.returns-clause-turns
returns-clause-turns c script range run = turn_shows script c.args.book.now range run

pub returns-clause-sections : goal.returns-clause-sections
returns-clause-sections c script run = section_shows script c.args.book.now run
