-- The log: a list of transactions, each with the number of its append and all stamps that it has, in the
-- order of the appends. What the calls of the log answer is defined on that list alone.
use Rattle.std.specs.Prelude.{ℕ, ◌+◌, Bool, ◌&&◌, ◌==◌, not, max, cond, List, [], ◌∷◌, ◌++◌, map, filter, flat_map}
use Rattle.std.specs.List.{list_any}
use Rattle.ids_core.specs.declared.ids.Dot.{Dot}
use Rattle.ids_core.specs.declared.ids.Mark.{Mark}
use Rattle.ids_core.specs.declared.object.ObjectId.{ObjectId}
use Rattle.ids_core.specs.Ids.{same_dot}
use Rattle.vv_core.specs.declared.stamp.Stamp.{Stamp}
use Rattle.vv_core.specs.Stamps.{is_any_within}
use Rattle.tx_core.specs.declared.op.Op.{Op}
use Rattle.tx_core.specs.declared.tx.Tx.{Tx}
use Rattle.tx_core.specs.declared.tx.Record.{Record}
use Rattle.tx_core.specs.Operations.{ops_of}
use Rattle.op_log.specs.declared.chains.Cell.{Cell}
use Rattle.op_log.specs.declared.logged.Logged.{Logged}

-- the transactions in the log, in the order of their appends, and how many were ever appended
pub record LogView : Type 0 where
  pub appended : ℕ
  pub items : List Logged

-- ---- one transaction

-- a marked operation of the transaction of a number
abbrev pub cell : ℕ → (Mark × Op) → Cell
cell number marked = record { tx = number; mark = marked.0; op = marked.1 }

-- the operations on the object in a transaction of a number
abbrev pub cells_in : ObjectId → ℕ → Tx → List Cell
cells_in o number tx = map (cell number) (ops_of o tx)

-- the operations on the object in a transaction of the log
abbrev pub cells_of : ObjectId → Logged → List Cell
cells_of o x = cells_in o x.number x.tx

-- whether one of its stamps is within the vector
abbrev pub is_inside : List ℕ → Logged → Bool
is_inside w x = is_any_within w x.stamps

-- the transaction of a record, with its stamp
abbrev pub first_of : ℕ → Record → Logged
first_of number r = record { number = number; tx = r.tx; stamps = r.stamp ∷ [] }

-- the transaction with one stamp more
abbrev pub with_one : Stamp → Logged → Logged
with_one s x = record x { stamps = x.stamps ++ s ∷ [] }

-- ---- all transactions

-- the chain of an object: its operations, in the order of the log
abbrev pub chain_of : ObjectId → List Logged → List Cell
chain_of o items = flat_map (cells_of o) items

-- whether the transaction of a number has a stamp within the vector
abbrev pub is_inside_at : List ℕ → ℕ → List Logged → Bool
is_inside_at w number items = list_any (λ x. (x.number == number) && is_inside w x) items

-- the greatest number of client c's transactions with a stamp within the vector, 0 for none
abbrev pub mine_in : ℕ → List ℕ → List Logged → ℕ
mine_in c w [] = 0
mine_in c w (x ∷ items) = max (cond ((x.tx.dot.client == c) && is_inside w x) x.tx.dot.number 0) (mine_in c w items)

-- the transactions with a stamp within the vector
abbrev pub within_of : List ℕ → List Logged → List Logged
within_of w items = filter (is_inside w) items

-- the other transactions
abbrev pub left_of : List ℕ → List Logged → List Logged
left_of w items = filter (λ x. not (is_inside w x)) items

-- whether a transaction has the dot
abbrev pub has_dot : Dot → List Logged → Bool
has_dot d items = list_any (λ x. same_dot x.tx.dot d) items

-- the transaction with one stamp more where it has the dot
abbrev pub stamped : Dot → Stamp → Logged → Logged
stamped d s x = cond (same_dot x.tx.dot d) (with_one s x) x

-- the transactions, that of the dot with one stamp more
abbrev pub with_stamp : Dot → Stamp → List Logged → List Logged
with_stamp d s items = map (stamped d s) items

-- the log with the transaction of one more record
abbrev pub with_record : LogView → Record → LogView
with_record l r = record { appended = l.appended + 1; items = l.items ++ first_of l.appended r ∷ [] }
