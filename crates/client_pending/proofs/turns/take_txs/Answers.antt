use Rattle.std.proofs.Common.{◌++◌, ◌∷◌, ◌+◌, drop, sym, ap, ◌∙◌}
use Rattle.std.specs.Prelude.{flat_map}
use Rattle.std.proofs.lemmas.List.{drop_more}
use Rattle.std.proofs.Math.ListN.{drop_of_length-le}
use Rattle.tx_core.specs.Operations.{ops_of}
use Rattle.client_pending.proofs.Indexes.{first_gone}
use Rattle.client_pending.proofs.turns.take_txs.Goals as goal

pub loop-tx-preserved : goal.loop-tx-preserved
loop-tx-preserved c rest finds o =
    let more = drop_more c.args.txs.now c.loop-tx.tx-index c.tx-item.result c.loop-tx-test.true ∙ ap (λ tx. tx ∷ drop (c.loop-tx.tx-index + 1) c.args.txs.now) (sym c.tx-item.is) in
    first_gone o c.tx-item.result (drop (c.loop-tx.tx-index + 1) c.args.txs.now ++ rest) _ _ (c.loop-tx.invariant rest finds o ∙ ap (λ l. flat_map (ops_of o) (l ++ rest)) more) (c.take_first_tx.ensures o)

pub returns : goal.returns
returns c rest finds o = c.loop-tx.invariant rest finds o ∙ ap (λ l. flat_map (ops_of o) (l ++ rest)) (drop_of_length-le c.args.txs.now c.loop-tx-test.false)
