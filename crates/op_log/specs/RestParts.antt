-- A log taken apart: its transactions, each with its stamps, in the order of the log.
use Rattle.std.specs.Prelude.{◌≤◌, ℕ, ◌+◌, List, [], ◌∷◌, ◌++◌, map, All, length}
use Rattle.list_core.specs.Apart.{Apart}
use Rattle.ids_core.specs.declared.limits.TheConstants.{MOST_UPDATES}
use Rattle.tx_core.specs.declared.part.RestPart.{RestPart}
use Rattle.op_log.specs.declared.logged.Logged.{Logged}
use Rattle.op_log.specs.Logs.{LogView}

-- a transaction of the log with its stamps
abbrev pub rest_part : Logged → RestPart
rest_part x = record { tx = x.tx; stamps = x.stamps }

-- the parts of a log
abbrev pub parts_of : List Logged → List RestPart
parts_of items = map rest_part items

-- the transaction of a part under a number
abbrev pub logged_part : ℕ → RestPart → Logged
logged_part number p = record { number = number; tx = p.tx; stamps = p.stamps }

-- the transactions of the parts under the numbers from one on
abbrev pub logged_from : ℕ → List RestPart → List Logged
logged_from number [] = []
logged_from number (p ∷ parts) = logged_part number p ∷ logged_from (number + 1) parts

-- the log that is made of parts: each transaction has its place there, counted from 0, for its number
abbrev pub log_of : List RestPart → LogView
log_of parts = record { appended = length parts; items = logged_from 0 parts }

-- the log with a part behind the others
abbrev pub with_part : LogView → RestPart → LogView
with_part l p = record { appended = l.appended + 1; items = l.items ++ logged_part l.appended p ∷ [] }

-- parts of which a log can be made: their dots differ, and each has few updates
pub record AreParts (parts : List RestPart) : Type 0 where
  pub apart : Apart (λ (p : RestPart). p.tx.dot) parts
  pub few : All (λ p. length p.tx.updates ≤ MOST_UPDATES) parts
