-- Transactions that are parted into some that were folded and others that are kept.
use Rattle.std.specs.Prelude.{◌≡◌, Bool, true, List, ◌++◌}
use Rattle.list_core.specs.Members.{In}
use Rattle.list_core.specs.Permutations.{Perm}
use Rattle.list_core.specs.Apart.{Apart}
use Rattle.tx_core.specs.declared.tx.Tx.{Tx}

-- transactions with different dots are parted into folded and kept ones, whatever the order, and the folded ones
-- pass the test
pub record IsParting (test : Tx → Bool) (txs folded kept : List Tx) : Type 0 where
  pub apart : Apart (λ (tx : Tx). tx.dot) txs
  pub whole : Perm (folded ++ kept) txs
  pub passed : (tx : Tx) → In tx folded → test tx ≡ true
