use Rattle.thread_run.proofs.Halving.{closed_begin, closed_more}
use Rattle.thread_run.proofs.closing.close_halves.Goals as goal

pub halves-init : goal.halves-init
halves-init g c = closed_begin _ _ _

pub halves-preserved : goal.halves-preserved
halves-preserved g c = closed_more _ _ _ _ _ _ _ c.halves.invariant c.in_ok-close_half.ensures
