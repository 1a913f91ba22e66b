use Rattle.thread_run.proofs.Crews.{AreCrewsBefore}
use Rattle.thread_run.proofs.casting.crews_of.Given as goal

abbrev pub invariant-centres : goal.invariant-centres
invariant-centres l = AreCrewsBefore l.before l.fn.workers l.left l.crews.items
