use Rattle.thread_run.specs.Lending.{AreInletsTo}
use Rattle.thread_run.proofs.Ends.{StayPast}
use Rattle.thread_run.proofs.lending.lend_to.Given as goal

abbrev pub invariant-centres : goal.invariant-centres
invariant-centres l = AreInletsTo l.initial.posts l.before l.to l.inlets.items l.posts × StayPast l.before l.to l.initial.posts l.posts
