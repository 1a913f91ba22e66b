use Rattle.thread_run.proofs.PhaseTaps.{first_more}
use Rattle.thread_run.proofs.tapping.cut_readers.Goals as goal

pub rows-preserved : goal.rows-preserved
rows-preserved c = first_more _ _ _ _ c.rows.invariant c.in_ok-add_row.ensures
