use Rattle.std.proofs.Common.{◌≡◌, refl, take, set, subst}
use Rattle.k_stable.specs.Tables.{Table, rows_of}
use Rattle.k_stable.proofs.Rows.{rows_placed}
use Rattle.k_stable.proofs.told.Told.rows_with.Goals as goal

pub returns : goal.returns
returns c =
    let places = c.self.inside.rows in
    let own = c.args.own.now in
    subst (λ (t : Table). take t.n (set places c.from.result own) ≡ rows_of t own) c.self.view_is (rows_placed _ own places c.from.result refl c.self.invariant c.from.ensures)
