use Rattle.std.proofs.Common.{ap, sym, ◌∙◌, not}
use Rattle.tally_core.specs.declared.place.Place.{Place}
use Rattle.tally_core.specs.declared.place.Cell.{Cell}
use Rattle.tally_core.specs.Listing.{is_there}
use Rattle.tally_core.proofs.Filling.{put_more, pass_more, sorted_left}
use Rattle.tally_core.proofs.listing.tree_of.Goals as goal

pub loop-place-preserved-in-Continue-branch-2 : goal.loop-place-preserved-in-Continue-branch-2
loop-place-preserved-in-Continue-branch-2 g c =
    let e : Place × Cell g.row.P.Denot = (c.in-Some.place.now, c.in-Some.cell.now) in
    let is = c.in-Some.ensures.steps in
    record {
      told = λ q. put_more is_there _ _ _ e is c.loop-place.invariant.sorted q _ (ap not (sym c.is_nothing.ensures ∙ c.if-not-is_nothing.true)) c.in_ok-put.ensures ∙ c.loop-place.invariant.told q;
      sorted = sorted_left _ _ e is c.loop-place.invariant.sorted;
    }

pub loop-place-preserved : goal.loop-place-preserved
loop-place-preserved g c =
    let e : Place × Cell g.row.P.Denot = (c.in-Some.place.now, c.in-Some.cell.now) in
    let is = c.in-Some.ensures.steps in
    record {
      told = λ q. pass_more is_there _ _ c.loop-place.all.entries e is c.loop-place.invariant.sorted q (ap not (sym c.is_nothing.ensures ∙ c.if-not-is_nothing.false)) ∙ c.loop-place.invariant.told q;
      sorted = sorted_left _ _ e is c.loop-place.invariant.sorted;
    }
