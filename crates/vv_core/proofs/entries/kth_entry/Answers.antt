use Rattle.std.proofs.Common.{◌≡◌, ◌<◌, ◌∙◌, ℕ, ap, leb, max, inl, inr, arith, length}
use Rattle.std.proofs.lemmas.Bool.{le-leb, lt-leb}
use Rattle.vv_core.specs.Vectors.{at, reach, column}
use Rattle.vv_core.proofs.Reaching.{most_next}
use Rattle.vv_core.proofs.entries.kth_entry.Goals as goal
use Rattle.vv_core.proofs.entries.kth_entry.Goals.{then-k-reach_at, else-k-reach_at}

pub loop-row-preserved : goal.loop-row-preserved
loop-row-preserved c =
    let rows = c.args.rows.now in
    let e = c.args.centre in
    let row = c.row-item.result in
    let good = λ (x : ℕ). leb c.args.k (reach x (column e rows)) in
    let there : c.loop-row.row-index < length rows = omega arith in
    let counted : c.reach_at.result ≡ reach (at row e) (column e rows) = c.reach_at.ensures ∙ ap (λ x. reach x (column e rows)) c.entry-x.ensures in
    most_next good e rows c.loop-row.row-index row c.loop-row.best c.if-k-reach_at.best there c.row-item.is
    (elim c.if-k-reach_at.branch [
      | then-k-reach_at w ↦ inl (le-leb _ _ (omega (arith, counted, w.if-k-reach_at.true)), w.best-is ∙ (w.max-best.ensures ∙ ap (max c.loop-row.best) c.entry-x.ensures))
      | else-k-reach_at w ↦ inr (lt-leb _ _ (omega (arith, counted, w.if-k-reach_at.false)), w.best-is)
    ]) ∙ c.loop-row.invariant
