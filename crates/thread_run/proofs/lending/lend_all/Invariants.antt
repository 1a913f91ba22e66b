use Rattle.thread_run.proofs.Ends.{AreRowsTo}
use Rattle.thread_run.proofs.lending.lend_all.Given as goal

abbrev pub invariant-centres : goal.invariant-centres
invariant-centres l = AreRowsTo l.initial.posts l.n l.before l.rows.items l.posts
