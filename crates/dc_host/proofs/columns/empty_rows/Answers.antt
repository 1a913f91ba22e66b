use Rattle.dc_host.proofs.Rows.{empty_more}
use Rattle.dc_host.proofs.columns.empty_rows.Goals as goal

pub callers-preserved : goal.callers-preserved
callers-preserved c = empty_more c.callers.rows.items c.push.new.self.items c.in_ok-with_capacity.field-0 c.callers._caller c.callers.invariant c.in_ok-push.ensures.items c.in_ok-with_capacity.ensures.items
