-- What clients asked for, where a book has what they did.
use Rattle.std.specs.Prelude.{List, map}
use Rattle.tx_core.specs.declared.tx.Update.{Update}
use Rattle.run_book.specs.declared.edits.Edit.{Edit}
use Rattle.tx_graph.specs.Values.{change_of}

-- the edit of an update
abbrev pub edit_of : Update → Edit
edit_of u = record { object = u.object; change = change_of u.op }

-- the edits of updates, in order
abbrev pub edits_of : List Update → List Edit
edits_of updates = map edit_of updates
