use Rattle.std.proofs.Common.{◌≡◌, ◌≤◌, length, sym, ◌∙◌, arith}
use Rattle.std.proofs.lemmas.Result.{on_ok_weaker}
use Rattle.client_cache.proofs.Tables.{brought, there_as}
use Rattle.client_cache.proofs.cache.Cache.bring.Goals as goal

pub bring-requires : goal.bring-requires
bring-requires c =
    let some = rw (← c.self.view_is) at c.requires in
    sym (there_as c.args.object.now c.self.inside.table.entries) ∙ some

pub returns-clause-ok : goal.returns-clause-ok
returns-clause-ok c =
    let table = c.self.inside.table in
    let valid = c.len-size.ensures.valid in
    let some : 1 ≤ table.cap = omega (arith, valid.2) in
    let few : length table.entries ≤ table.cap = valid.1 in
    let tail : c.in_ok-tail.tail.items ≡ c.args.tail.now = c.in_ok-tail.ensures.items_if_clones_equal (λ x y is. λ i. (is.0 i, is.1 i)) in
    rw (← c.self.view_is, ← tail) (on_ok_weaker c.bring.result (λ ok. brought table c.bring.new.table.entries c.args.object.now c.args.at.now c.in_ok-tail.tail.items valid.0 some few ok) c.bring.ensures.ok)
