use Rattle.std.proofs.Common.{◌++◌, ◌-◌, ℕ, List, ap, ◌∙◌, arith, take}
use Rattle.std.specs.Prelude.{flat_map}
use Rattle.ids_core.specs.declared.ids.Dot.{Dot}
use Rattle.vv_core.specs.Vectors.{at, centres}
use Rattle.list_core.proofs.Ranges.{joined_more}
use Rattle.run_book.specs.ReadBases.{stamped_at}
use Rattle.run_book.proofs.read_bases.covered.Goals as goal

pub loop-centre-preserved : goal.loop-centre-preserved
loop-centre-preserved c =
    let centre = c.loop-centre.centre in
    let f : ℕ → List Dot = λ e. take (at c.args.vector.now e) (stamped_at c.args.stamped.now e) in
    c.in_ok-push_first.ensures
    ∙ ap (λ l. l ++ take c.get.result (stamped_at c.args.stamped.now centre)) c.loop-centre.invariant
    ∙ ap (λ n. flat_map f (centres (centre - 1)) ++ take n (stamped_at c.args.stamped.now centre)) c.get.ensures
    ∙ joined_more f centre (omega arith)
