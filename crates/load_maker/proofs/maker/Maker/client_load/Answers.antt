use Rattle.std.proofs.lemmas.Result.{on_ok_weaker}
use Rattle.load_maker.proofs.Blocks.{makes_append, makes_then}
use Rattle.load_maker.proofs.maker.Maker.client_load.Goals as goal

pub returns : goal.returns
returns c = on_ok_weaker c.put.result (λ rest. makes_then _ _ _ _ _ c.in_ok-connect.ensures (makes_append _ _ _ _ _ c.in_ok-transactions.ensures rest)) c.put.ensures
