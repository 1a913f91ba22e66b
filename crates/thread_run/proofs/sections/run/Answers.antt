use Rattle.thread_run.proofs.Joining.{run_of}
use Rattle.thread_run.proofs.sections.run.Goals as goal

pub returns : goal.returns
returns g c = run_of c.args.script.now c.in_ok-table.table c.book_of.result c.requires c.in_ok-table.ensures c.book_of.ensures
