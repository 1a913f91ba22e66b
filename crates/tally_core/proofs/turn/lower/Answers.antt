use Rattle.std.proofs.Common.{None, sym, ◌∙◌}
use Rattle.std.specs.BTreeMap.{get}
use Rattle.tally_core.specs.Places.{place, place_cmp}
use Rattle.tally_core.proofs.Parts.{stays, seen_turned, apart_kept}
use Rattle.tally_core.proofs.Turned.{live_can, live_falls, live_falls_apart, owed_can, owed_falls, owed_falls_apart}
use Rattle.tally_core.proofs.turn.lower.Goals as goal

pub lower_in-requires : goal.lower_in-requires
lower_in-requires g c =
    let p = place c.args.name.now c.args.id.now in let cells = c.args.cells.now in
    live_can (get place_cmp cells.live p) (get place_cmp cells.owed p) (sym c.contains_key.ensures ∙ c.if-contains_key.true) (c.requires.parted p)

pub lower_in-requires-else-contains_key : goal.lower_in-requires-else-contains_key
lower_in-requires-else-contains_key g c =
    let p = place c.args.name.now c.args.id.now in let cells = c.args.cells.now in
    owed_can (get place_cmp cells.live p) (get place_cmp cells.owed p) (sym c.contains_key.ensures ∙ c.if-contains_key.false) c.requires.falls

pub returns-then-contains_key-clause-parted : goal.returns-then-contains_key-clause-parted
returns-then-contains_key-clause-parted g c =
    let p = place c.args.name.now c.args.id.now in let cells = c.args.cells.now in
    apart_kept cells.live.entries _ cells.owed.entries cells.owed.entries p _ _ c.lower_in.ensures (stays cells.owed.entries p) (live_falls_apart (get place_cmp cells.live p) (get place_cmp cells.owed p) (sym c.contains_key.ensures ∙ c.if-contains_key.true) (c.requires.parted p)) c.requires.parted

pub returns-then-contains_key-clause-view : goal.returns-then-contains_key-clause-view
returns-then-contains_key-clause-view g c =
    let p = place c.args.name.now c.args.id.now in let cells = c.args.cells.now in
    seen_turned cells.live.entries _ cells.owed.entries cells.owed.entries p None _ _ c.lower_in.ensures (stays cells.owed.entries p) (live_falls (get place_cmp cells.live p) (get place_cmp cells.owed p) (sym c.contains_key.ensures ∙ c.if-contains_key.true) (c.requires.parted p))

pub returns-else-contains_key-clause-parted : goal.returns-else-contains_key-clause-parted
returns-else-contains_key-clause-parted g c =
    let p = place c.args.name.now c.args.id.now in let cells = c.args.cells.now in
    apart_kept cells.live.entries cells.live.entries cells.owed.entries _ p _ _ (stays cells.live.entries p) c.lower_in-else-contains_key.ensures (owed_falls_apart (get place_cmp cells.live p) (get place_cmp cells.owed p) (sym c.contains_key.ensures ∙ c.if-contains_key.false) (c.requires.parted p)) c.requires.parted

pub returns-else-contains_key-clause-view : goal.returns-else-contains_key-clause-view
returns-else-contains_key-clause-view g c =
    let p = place c.args.name.now c.args.id.now in let cells = c.args.cells.now in
    seen_turned cells.live.entries cells.live.entries cells.owed.entries _ p None _ _ (stays cells.live.entries p) c.lower_in-else-contains_key.ensures (owed_falls (get place_cmp cells.live p) (get place_cmp cells.owed p) (sym c.contains_key.ensures ∙ c.if-contains_key.false) c.requires.falls)
