use Rattle.std.proofs.Common.{ap, subst}
use Rattle.k_stable.specs.Tables.{Table, IsTable}
use Rattle.k_stable.proofs.Rows.{even_first}
use Rattle.k_stable.proofs.told.Told.stable.Goals as goal

pub kth-requires-clause-rows : goal.kth-requires-clause-rows
kth-requires-clause-rows c = even_first c.args.self.now c.args.own.now c.from.result c.self.inside.n c.rows_with-rows.result (subst IsTable c.self.view_is c.self.invariant) c.requires c.from.ensures (ap (λ (t : Table). t.n) c.self.view_is) c.rows_with-rows.ensures
