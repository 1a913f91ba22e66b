use Rattle.std.proofs.Common.{◌++◌, ◌-◌, ℕ, List, ap, ◌∙◌, arith, take}
use Rattle.std.specs.Prelude.{flat_map}
use Rattle.ids_core.specs.declared.ids.Dot.{Dot}
use Rattle.vv_core.specs.Vectors.{at, centres}
use Rattle.run_book.specs.Parts.{trail_of}
use Rattle.run_book.specs.Basis.{stamped_dots}
use Rattle.list_core.proofs.Ranges.{joined_more}
use Rattle.run_book.proofs.book.Book.cover.Goals as goal

pub loop-centre-preserved : goal.loop-centre-preserved
loop-centre-preserved c =
    let centre = c.loop-centre.centre in
    let f : ℕ → List Dot = λ e. take (at c.args.vector.now e) (stamped_dots (trail_of c.args.self.now e)) in
    let before : List Dot = flat_map f (centres (centre - 1)) in
    c.in_ok-push_stamped.ensures
    ∙ (ap (λ l. l ++ take c.get.result (stamped_dots c.trail.result.now)) c.loop-centre.invariant
    ∙ (ap (λ n. before ++ take n (stamped_dots c.trail.result.now)) c.get.ensures
    ∙ (ap (λ t. before ++ take (at c.args.vector.now centre) (stamped_dots t)) c.trail.ensures ∙ joined_more f centre (omega arith))))
