use Rattle.std.proofs.Common.{◌++◌, ◌∷◌, [], ◌+◌, ℕ, List, map, sym, ap, ◌∙◌, arith}
use Rattle.std.specs.List.{range_with_len}
use Rattle.std.proofs.lemmas.List.FromFn.{map-range_with_len_more}
use Rattle.ids_core.specs.declared.ids.Dot.{Dot}
use Rattle.run_book.specs.Basis.{stamped_dots}
use Rattle.run_book.specs.Parts.{trail_of}
use Rattle.run_book.proofs.book.Book.stamped.Goals as goal

pub loop-before-preserved : goal.loop-before-preserved
loop-before-preserved c =
    let before = c.loop-before.before in
    let f : ℕ → List Dot = λ e. stamped_dots (trail_of c.args.self.now e) in
    c.in_ok-push.ensures.items
    ∙ ap (λ lists. lists ++ c.in_ok-stamped_in.field-0 ∷ []) c.loop-before.invariant
    ∙ ap (λ dots. map f (range_with_len 1 before) ++ dots ∷ []) (c.in_ok-stamped_in.ensures ∙ ap stamped_dots c.trail.ensures)
    ∙ sym (map-range_with_len_more f 1 before (before + 1) (omega arith))
