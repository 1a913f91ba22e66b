use Rattle.std.proofs.Common.{rules, Some, sym, subst, ◌∙◌}
use Rattle.std.specs.BTreeMap.{get}
use Rattle.tally_core.specs.Places.{place, place_cmp}
use Rattle.tally_core.specs.Turn.{repaid}
use Rattle.tally_core.proofs.Kept.{Updated}
use Rattle.tally_core.proofs.Parts.{stays, seen_turned, seen_kept, apart_kept, can_kept}
use Rattle.tally_core.proofs.Turned.{owed_rises, owed_rises_apart, owed_rises_can, live_rises, live_rises_apart, none_owed}
use Rattle.tally_core.proofs.turn.raise.Goals as goal

pub returns-then-raise_owed-clause-parted : goal.returns-then-raise_owed-clause-parted
returns-then-raise_owed-clause-parted g c =
    let p = place c.args.name.now c.args.id.now in let cells = c.args.cells.now in
    apart_kept cells.live.entries cells.live.entries cells.owed.entries _ p _ _ (stays cells.live.entries p) c.raise_owed.ensures.puts (owed_rises_apart c.args.kept (get place_cmp cells.live p) (get place_cmp cells.owed p) (sym c.raise_owed.ensures.owes ∙ c.if-raise_owed.true) (c.requires p)) c.requires

pub returns-then-raise_owed-clause-ok : goal.returns-then-raise_owed-clause-ok
returns-then-raise_owed-clause-ok g c =
    let p = place c.args.name.now c.args.id.now in let cells = c.args.cells.now in
    seen_turned cells.live.entries cells.live.entries cells.owed.entries _ p (Some c.args.kept) _ _ (stays cells.live.entries p) c.raise_owed.ensures.puts (owed_rises c.args.kept (get place_cmp cells.live p) (get place_cmp cells.owed p) (sym c.raise_owed.ensures.owes ∙ c.if-raise_owed.true) (c.requires p))

pub returns-then-raise_owed-clause-stays : goal.returns-then-raise_owed-clause-stays
returns-then-raise_owed-clause-stays g c =
    let p = place c.args.name.now c.args.id.now in let cells = c.args.cells.now in
    can_kept cells.live.entries cells.live.entries cells.owed.entries _ p _ _ (stays cells.live.entries p) c.raise_owed.ensures.puts (owed_rises_can c.args.kept (get place_cmp cells.live p) (get place_cmp cells.owed p) (sym c.raise_owed.ensures.owes ∙ c.if-raise_owed.true))

pub returns-in_err-raise_live-clause-err : goal.returns-in_err-raise_live-clause-err
returns-in_err-raise_live-clause-err g c =
    let p = place c.args.name.now c.args.id.now in let cells = c.args.cells.now in let live = get place_cmp cells.live p in let owed = get place_cmp cells.owed p in
    let same = subst (λ es. Updated cells.live.entries es p live) (sym c.in_err-raise_live.ensures.err) (stays cells.live.entries p) in
    let kept = seen_kept cells.live.entries _ cells.owed.entries _ p live (repaid c.args.kept owed) same c.raise_owed.ensures.puts (none_owed c.args.kept live owed (sym c.raise_owed.ensures.owes ∙ c.if-raise_owed.false) (c.requires p)) in
    search (rules, kept)

pub returns-clause-ok : goal.returns-clause-ok
returns-clause-ok g c =
    let p = place c.args.name.now c.args.id.now in let cells = c.args.cells.now in let live = get place_cmp cells.live p in let owed = get place_cmp cells.owed p in
    seen_turned cells.live.entries _ cells.owed.entries _ p (Some c.args.kept) _ _ c.in_ok-raise_live.ensures.ok c.raise_owed.ensures.puts (live_rises c.args.kept live owed (sym c.raise_owed.ensures.owes ∙ c.if-raise_owed.false) (c.requires p))

pub returns-clause-parted : goal.returns-clause-parted
returns-clause-parted g c =
    let p = place c.args.name.now c.args.id.now in let cells = c.args.cells.now in let live = get place_cmp cells.live p in let owed = get place_cmp cells.owed p in
    apart_kept cells.live.entries _ cells.owed.entries _ p _ _ c.in_ok-raise_live.ensures.ok c.raise_owed.ensures.puts (live_rises_apart c.args.kept live owed (sym c.raise_owed.ensures.owes ∙ c.if-raise_owed.false) (c.requires p)) c.requires
