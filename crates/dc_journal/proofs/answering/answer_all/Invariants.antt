use Rattle.std.proofs.Common.{◌≡◌, take, length}
use Rattle.dc_journal.specs.Steps.{TakesAsks}
use Rattle.dc_journal.proofs.answering.answer_all.Given as goal

abbrev pub invariant-loop-ask : goal.invariant-loop-ask
invariant-loop-ask g l = record {
  takes : TakesAsks g.T.AskItem.of_ask l.fn.centre.settings l.fn.centre l.centre (take l.ask-index l.asks) l.batch.says.items l.batch.kept.items;
  many : length l.batch.says.items ≡ l.ask-index;
  fresh : l.ask-index ≡ 0 → l.centre ≡ l.fn.centre;
  settings : l.centre.settings ≡ l.fn.centre.settings;
}
