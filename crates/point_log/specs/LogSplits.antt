-- A split of applied records whose kept ones stand in a log.
use Rattle.std.specs.Prelude.{◌≡◌, ◌<◌, ℕ, not, List, map, filter}
use Rattle.list_core.specs.Members.{In}
use Rattle.list_core.specs.Apart.{Apart}
use Rattle.ids_core.specs.declared.ids.Mark.{Mark}
use Rattle.tx_core.specs.declared.op.Op.{Op}
use Rattle.tx_core.specs.declared.tx.Tx.{Tx}
use Rattle.tx_core.specs.declared.tx.Record.{Record}
use Rattle.op_log.specs.declared.chains.Cell.{Cell}
use Rattle.op_log.specs.declared.logged.Logged.{Logged}
use Rattle.op_log.specs.Logs as log
use Rattle.dc_talk.specs.Dots.{stamps_of}
use Rattle.point_log.specs.Splits.{first_txs, is_inside, IsSplit}

-- the transactions in a log
abbrev pub txs_of : List Logged → List Tx
txs_of items = map (λ x. x.tx) items

-- the marked operations of a chain
abbrev pub ops_in : List Cell → List (Mark × Op)
ops_in cells = map (λ c. (c.mark, c.op)) cells

-- the transactions of the records that are not within the base, in the order of their first records
abbrev pub rest_txs : List Record → List ℕ → List Tx
rest_txs A base = filter (λ tx. not (is_inside A base tx)) (first_txs A)

-- of the records A all that is within the base was folded, and the rest stands in the log in the order of its first
-- records, each transaction with all its stamps, under numbers that differ
pub record IsLogSplit (A : List Record) (base : List ℕ) (folded : List Tx) (kept : log.LogView) : Type 0 where
  pub split : IsSplit A base folded (txs_of kept.items)
  pub order : txs_of kept.items ≡ rest_txs A base
  pub stamps : (x : Logged) → In x kept.items → x.stamps ≡ stamps_of x.tx.dot A
  pub apart : Apart (λ (x : Logged). x.number) kept.items
  pub below : (x : Logged) → In x kept.items → x.number < kept.appended
