use Rattle.std.proofs.Common.{drop, List, ◌++◌}
use Rattle.tx_core.specs.declared.tx.Tx.{Tx}
use Rattle.client_pending.specs.Indexes.{Finds}
use Rattle.client_pending.proofs.turns.take_txs.Given as goal

abbrev pub invariant-loop-tx : goal.invariant-loop-tx
invariant-loop-tx l = (rest : List Tx) → Finds l.fn.index (l.txs ++ rest) → Finds l.index (drop l.tx-index l.txs ++ rest)
