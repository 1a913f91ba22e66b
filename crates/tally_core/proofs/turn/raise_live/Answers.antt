use Rattle.std.proofs.Common.{rules, Some, ap, sym, ◌∙◌}
use Rattle.std.specs.Option.{unwrap_or}
use Rattle.std.specs.BTreeMap.Entry.{entry_value, map_with_value, MatchEntry}
use Rattle.tally_core.specs.Places.{place}
use Rattle.tally_core.specs.Cells.{turned, nothing}
use Rattle.tally_core.proofs.Kept.{found, missed, written}
use Rattle.tally_core.proofs.turn.raise_live.Goals as goal

pub returns-in-Vacant-clause-ok : goal.returns-in-Vacant-clause-ok
returns-in-Vacant-clause-ok g c =
    let gone = missed c.args.live.now (place c.args.name.now c.args.id.now) _ _ c.in-Vacant.is MatchEntry _ c.in_ok-entry.ensures.found in
    let is = c.insert.ensures.value ∙ (c.make_cell.ensures ∙ ap (λ o. turned (Some c.args.kept) (unwrap_or o nothing)) (sym gone)) in
    written c.args.live.now _ _ _ c.in-Vacant.is _ map_with_value _ _ (search rules) is c.in_ok-entry.ensures.update.0

pub returns-else-not-is_within-clause-ok : goal.returns-else-not-is_within-clause-ok
returns-else-not-is_within-clause-ok g c =
    let there = found c.args.live.now (place c.args.name.now c.args.id.now) _ _ c.in-Occupied.is entry_value _ c.in_ok-entry.ensures.value c.get-cell.ensures in
    let is = c.turned.ensures ∙ ap (λ o. turned (Some c.args.kept) (unwrap_or o nothing)) (sym there) in
    written c.args.live.now _ _ _ c.in-Occupied.is _ map_with_value _ c.turned.result (search rules) is c.in_ok-entry.ensures.update.0
