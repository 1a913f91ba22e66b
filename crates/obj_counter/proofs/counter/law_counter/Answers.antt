use Rattle.std.proofs.Common.{pos, ◌∙◌}
use Rattle.obj_counter.specs.Counter.{deltas}
use Rattle.obj_counter.specs.Laws.{fold-step, fold-added}
use Rattle.obj_counter.proofs.Totals.{fold-added_exact}
use Rattle.obj_counter.proofs.counter.law_counter.Goals as goal

pub returns : goal.returns
returns c = record {
  wraps = λ ops. fold-step ops (pos 0) ∙ fold-added (deltas ops);
  exact = λ ops small. fold-step ops (pos 0) ∙ fold-added_exact (deltas ops) small;
}
