use Rattle.std.proofs.Common.{◌≡◌, Some, rules, sym, ap, ◌∙◌}
use Rattle.std.specs.Map.{lookup, set_value}
use Rattle.std.proofs.lemmas.Map.Steps.{set_value_same}
use Rattle.std.proofs.lemmas.Option.{same_Some}
use Rattle.lru.specs.LruCache.{put_entries}
use Rattle.ids_core.specs.Ids.{same_object}
use Rattle.tx_core.specs.States.{fold_of}
use Rattle.client_cache.specs.Caches.{StateAt}
use Rattle.client_cache.proofs.Tables.{rewritten}
use Rattle.client_cache.proofs.cache.bring.Goals as goal

pub returns-in_err-bring-in-Some-clause-err : goal.returns-in_err-bring-in-Some-clause-err
returns-in_err-bring-in-Some-clause-err c =
    let test = same_object c.args.object.now in
    let es = c.args.table.now.entries in
    let same : set_value test es c.bring.new.self ≡ es = ap (set_value test es) c.in_err-bring-in-Some.ensures.err ∙ set_value_same test es c.in-Some.held.now (sym c.in-Some.ensures.value) in
    search rules

pub returns-clause-ok : goal.returns-clause-ok
returns-clause-ok c held is =
    let o = c.args.object.now in
    let table = c.args.table.now in
    let there : lookup (same_object o) table.entries ≡ Some c.in-Some.held.now = sym c.in-Some.ensures.value in
    let same : c.in-Some.held.now ≡ held = same_Some c.in-Some.held.now held (sym there ∙ is) in
    let brought : StateAt → StateAt = λ h. record { vector = c.args.at.now; state = fold_of h.state c.args.tail.items } in
    ap (λ t. t.entries) c.promote.ensures.entries ∙ (rewritten table o c.in-Some.held.now c.bring.new.self there ∙ ap (put_entries same_object table o) (c.in_ok-bring-in-Some.ensures.ok ∙ ap brought same))
