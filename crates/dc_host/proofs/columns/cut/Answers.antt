use Rattle.dc_host.proofs.Rows.{column_more}
use Rattle.dc_host.proofs.columns.cut.Goals as goal

pub rows-preserved : goal.rows-preserved
rows-preserved c = column_more _ _ _ _ c.rows.invariant c.in_ok-add_row.ensures
