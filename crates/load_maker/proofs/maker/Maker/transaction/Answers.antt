use Rattle.std.proofs.lemmas.Result.{on_ok_weaker}
use Rattle.load_maker.proofs.Blocks.{makes_then}
use Rattle.load_maker.proofs.maker.Maker.transaction.Goals as goal

pub returns : goal.returns
returns c = on_ok_weaker c.put-2.result (λ rest. makes_then _ _ _ _ _ c.in_ok-put.ensures (makes_then _ _ _ _ _ c.in_ok-change.ensures rest)) c.put-2.ensures
