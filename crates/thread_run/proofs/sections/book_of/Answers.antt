use Rattle.std.proofs.Common.{refl}
use Rattle.thread_run.proofs.Joining.{table_book}
use Rattle.thread_run.proofs.sections.book_of.Goals as goal

pub returns : goal.returns
returns c = table_book c.args.script.now c.args.table _ c.requires refl refl c.in_ok-trails.ensures c.from_vec.ensures
