use Rattle.std.proofs.Common.{sym, ap, ◌∙◌}
use Rattle.std.specs.Prelude.{is_some}
use Rattle.client_cache.proofs.Tables.{without, there_as}
use Rattle.client_cache.proofs.cache.Cache.forget.Goals as goal

pub returns-clause-entries : goal.returns-clause-entries
returns-clause-entries c =
    let table = c.self.inside.table in
    rw (← c.self.view_is, c.pop.ensures.entries) (λ i. record { entries = sym (without c.args.object.now table.entries) i; capacity = table.cap })

pub returns-clause-there : goal.returns-clause-there
returns-clause-there c = rw (← c.self.view_is) (c.is_some.ensures ∙ ap is_some c.pop.ensures.value ∙ sym (there_as c.args.object.now c.self.inside.table.entries))
