use Rattle.run_book.proofs.ReadBases.{Tells}
use Rattle.run_book.proofs.book.Book.log_bases.Given as goal

abbrev pub invariant-loop-note : goal.invariant-loop-note
invariant-loop-note l = Tells l.self l.stamped l.log l.bases.items l.replay l.note-index
