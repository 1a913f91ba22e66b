use Rattle.std.proofs.Common.{rules, ◌∙◌}
use Rattle.client_pending.specs.Folding.{FoldsPart}
use Rattle.client_pending.proofs.pending.fold_all.Goals as goal

pub returns-in_err-fold-clause-part : goal.returns-in_err-fold-clause-part
returns-in_err-fold-clause-part c =
    let part : FoldsPart c.args.marked.now c.args.state.now c.fold.new.self = record {
      count = c.loop-mark.mark-index;
      few = c.loop-mark-test.true;
      folds = c.in_err-fold.ensures.err ∙ c.loop-mark.invariant;
    } in
    search rules
