use Rattle.run_book.proofs.BareNodes.{Gathers}
use Rattle.run_book.proofs.book.Book.push_log.Given as goal

abbrev pub invariant-loop-note : goal.invariant-loop-note
invariant-loop-note l = Gathers l.self l.log l.initial.nodes.items l.nodes.items l.replay l.note-index
