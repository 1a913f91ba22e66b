use Rattle.std.proofs.Common.{◌≡◌, ℕ, List, take, ap, ◌∙◌, subst}
use Rattle.vv_core.specs.Vectors.{kth_largest}
use Rattle.k_stable.specs.Tables.{Table, IsTable, rows_of}
use Rattle.k_stable.proofs.Rows.{even_first, all_known_is}
use Rattle.k_stable.proofs.told.Told.all_known.Goals as goal

pub kth-requires-clause-rows : goal.kth-requires-clause-rows
kth-requires-clause-rows c = even_first c.args.self.now c.args.own.now c.from.result c.self.inside.n c.rows_with-rows.result (subst IsTable c.self.view_is c.self.invariant) c.requires c.from.ensures (ap (λ (t : Table). t.n) c.self.view_is) c.rows_with-rows.ensures

pub returns-clause-entries : goal.returns-clause-entries
returns-clause-entries c =
    let t = c.args.self.now in
    let own = c.args.own.now in
    let is : IsTable t = subst IsTable c.self.view_is c.self.invariant in
    let count : c.from.result ≡ t.n = c.from.ensures ∙ ap (λ (t : Table). t.n) c.self.view_is in
    let all : take c.from.result c.rows_with-rows.result ≡ rows_of t own = ap (λ n. take n c.rows_with-rows.result) count ∙ c.rows_with-rows.ensures in
    c.kth.ensures.entries
    ∙ (ap (λ (rows : List (List ℕ)). kth_largest c.self.inside.n rows) all
    ∙ (ap (λ n. kth_largest n (rows_of t own)) (ap (λ (t : Table). t.n) c.self.view_is)
    ∙ all_known_is t own is c.requires))
