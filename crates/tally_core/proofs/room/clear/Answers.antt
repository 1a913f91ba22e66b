use Rattle.std.proofs.Common.{None, sym, ◌∙◌}
use Rattle.std.specs.BTreeMap.{get}
use Rattle.tally_core.specs.Places.{place, place_cmp}
use Rattle.tally_core.proofs.Parts.{stays, seen_kept, apart_kept}
use Rattle.tally_core.proofs.Turned.{cleared, cleared_apart}
use Rattle.tally_core.proofs.room.clear.Goals as goal

pub returns-then-is_empty_at-clause-parted : goal.returns-then-is_empty_at-clause-parted
returns-then-is_empty_at-clause-parted g c =
    let p = place c.args.name.now c.args.id.now in let cells = c.args.cells.now in
    apart_kept cells.live.entries cells.live.entries cells.owed.entries _ p _ None (stays cells.live.entries p) c.remove.ensures.updates.0 (cleared_apart _ (get place_cmp cells.owed p) (c.requires p)) c.requires

pub returns-then-is_empty_at-clause-view : goal.returns-then-is_empty_at-clause-view
returns-then-is_empty_at-clause-view g c =
    let p = place c.args.name.now c.args.id.now in let cells = c.args.cells.now in
    seen_kept cells.live.entries cells.live.entries cells.owed.entries _ p _ None (stays cells.live.entries p) c.remove.ensures.updates.0 (cleared _ (get place_cmp cells.owed p) (sym c.is_empty_at.ensures ∙ c.if-is_empty_at.true) (c.requires p))
