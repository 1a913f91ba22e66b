use Rattle.std.proofs.Common.{rules, sym, ◌∙◌}
use Rattle.std.specs.BTreeMap.Entry.{map_with_value, MatchEntry}
use Rattle.tally_core.specs.Places.{place}
use Rattle.tally_core.proofs.Kept.{missed, written}
use Rattle.tally_core.proofs.Parts.{stays, seen_kept, apart_kept, can_kept}
use Rattle.tally_core.proofs.Turned.{none_of, stands, stands_apart, stands_can}
use Rattle.tally_core.proofs.room.stand.Goals as goal

pub returns-in-Vacant-clause-parted : goal.returns-in-Vacant-clause-parted
returns-in-Vacant-clause-parted g c =
    let p = place c.args.name.now c.args.id.now in let cells = c.args.cells.now in
    let put = written cells.owed _ _ _ c.in-Vacant.is _ map_with_value _ _ (search rules) c.insert.ensures.value c.in_ok-entry.ensures.update.0 in
    apart_kept cells.live.entries cells.live.entries _ _ p _ _ (stays cells.live.entries p) put (stands_apart _ _ (none_of _ (sym c.contains_key.ensures ∙ c.if-contains_key.false)) c.nothing.ensures) c.requires

pub returns-in-Vacant-clause-view : goal.returns-in-Vacant-clause-view
returns-in-Vacant-clause-view g c =
    let p = place c.args.name.now c.args.id.now in let cells = c.args.cells.now in
    let gone = missed cells.owed p _ _ c.in-Vacant.is MatchEntry _ c.in_ok-entry.ensures.found in
    let put = written cells.owed _ _ _ c.in-Vacant.is _ map_with_value _ _ (search rules) c.insert.ensures.value c.in_ok-entry.ensures.update.0 in
    seen_kept cells.live.entries cells.live.entries _ _ p _ _ (stays cells.live.entries p) put (stands _ _ _ (none_of _ (sym c.contains_key.ensures ∙ c.if-contains_key.false)) gone c.nothing.ensures)

pub returns-in-Vacant-clause-stays : goal.returns-in-Vacant-clause-stays
returns-in-Vacant-clause-stays g c =
    let p = place c.args.name.now c.args.id.now in let cells = c.args.cells.now in
    let gone = missed cells.owed p _ _ c.in-Vacant.is MatchEntry _ c.in_ok-entry.ensures.found in
    let put = written cells.owed _ _ _ c.in-Vacant.is _ map_with_value _ _ (search rules) c.insert.ensures.value c.in_ok-entry.ensures.update.0 in
    can_kept cells.live.entries cells.live.entries _ _ p _ _ (stays cells.live.entries p) put (stands_can _ _ _ (none_of _ (sym c.contains_key.ensures ∙ c.if-contains_key.false)) gone)
