use Rattle.std.proofs.Common.{◌≡◌, ◌+◌, ◌∷◌, drop, ap, sym, ◌∙◌}
use Rattle.std.proofs.lemmas.List.{drop_more}
use Rattle.tally_core.specs.Listing.{is_of}
use Rattle.tally_core.proofs.Filling.{left_or, put_more, pass_more, sorted_left}
use Rattle.tally_core.proofs.listing.part_of.Goals as goal
use Rattle.tally_core.proofs.listing.part_of.Goals.{then-is_of+in_ok-put, else-is_of}

pub loop-place-preserved : goal.loop-place-preserved
loop-place-preserved g c =
    let list = c.args.list.now in let i = c.loop-place.place-index in let e = c.loop-place-item.result in
    let t = is_of c.args.live in let rest = drop (i + 1) list in
    let is : drop i list ≡ e ∷ rest = drop_more list i e c.loop-place-test.true ∙ ap (λ e. e ∷ rest) (sym c.loop-place-item.is) in
    let sorted = c.loop-place.invariant.sorted in
    record {
      told = λ q. elim c.if-is_of.branch [
        | then-is_of+in_ok-put w ↦ ap (λ cells. left_or t rest cells.entries q) w.cells-is ∙ put_more t _ rest _ e is sorted q _ (sym c.is_of.ensures ∙ w.if-is_of.true) w.in_ok-put.ensures ∙ c.loop-place.invariant.told q
        | else-is_of w ↦ ap (λ cells. left_or t rest cells.entries q) w.cells-is ∙ pass_more t _ rest c.loop-place.cells.entries e is sorted q (sym c.is_of.ensures ∙ w.if-is_of.false) ∙ c.loop-place.invariant.told q
      ];
      sorted = sorted_left _ rest e is sorted;
    }
