use Rattle.std.proofs.Common.{sym, ap, ◌∙◌}
use Rattle.std.specs.Map.{set_value}
use Rattle.std.proofs.lemmas.Map.Steps.{set_value_same}
use Rattle.ids_core.specs.Ids.{same_object}
use Rattle.client_cache.proofs.cache.settle.Goals as goal

pub returns-in-Some-clause-entries : goal.returns-in-Some-clause-entries
returns-in-Some-clause-entries c =
    let test = same_object c.args.object.now in
    let es = c.args.table.now.entries in
    ap (set_value test es) c.settle.ensures ∙ set_value_same test es c.in-Some.held.now (sym c.in-Some.ensures.value)
