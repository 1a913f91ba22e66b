use Rattle.std.proofs.Common.{rules, refl, sym, subst, ◌∙◌}
use Rattle.std.specs.BTreeMap.Entry.{entry_value, map_with_value, map_without_entry}
use Rattle.tally_core.specs.Places.{place}
use Rattle.tally_core.proofs.Kept.{Updated, found, written, taken}
use Rattle.tally_core.proofs.Turned.{lowered_gone, lowered_left}
use Rattle.tally_core.proofs.turn.lower_in.Goals as goal

pub returns-then-is_nothing : goal.returns-then-is_nothing
returns-then-is_nothing g c =
    let m = c.args.cells.now in let p = place c.args.name.now c.args.id.now in
    let there = found m p _ _ c.in-Ok-Occupied.field-0-is entry_value _ c.in-Ok-Occupied.ensures.value c.get.ensures in
    let out = taken m p _ _ c.in-Ok-Occupied.field-0-is _ map_without_entry (search rules) c.in-Ok-Occupied.ensures.removal.0 in
    subst (Updated m.entries _ p) (sym (lowered_gone _ _ _ there c.turned-cell.ensures (sym c.is_nothing.ensures ∙ c.if-is_nothing.true))) out

pub returns-else-is_nothing : goal.returns-else-is_nothing
returns-else-is_nothing g c =
    let m = c.args.cells.now in let p = place c.args.name.now c.args.id.now in
    let there = found m p _ _ c.in-Ok-Occupied.field-0-is entry_value _ c.in-Ok-Occupied.ensures.value c.get.ensures in
    let put = written m p _ _ c.in-Ok-Occupied.field-0-is _ map_with_value _ c.turned-cell.result (search rules) refl c.in-Ok-Occupied.ensures.update.0 in
    subst (Updated m.entries _ p) (sym (lowered_left _ _ _ there c.turned-cell.ensures (sym c.is_nothing.ensures ∙ c.if-is_nothing.false))) put
