-- The places of commit asks among the notes of a log, by the numbers of their transactions.
use Rattle.std.specs.Prelude.{◌≡◌, ℕ, List, Option, Some, None, slice_get}
use Rattle.std.specs.Option.{option_and_then}
use Rattle.std.specs.Ordering.{nat_cmp}
use Rattle.std.specs.Map.{lookup}
use Rattle.std.specs.BTreeMap.{is_at}
use Rattle.tx_core.specs.declared.tx.Tx.{Tx}
use Rattle.dc_talk.specs.declared.log.Note.{Note}
use Rattle.dc_talk.specs.Logs.{commit_asked, commit_sent}

-- the transaction of the commit ask with this number that stands at a place, where there is one
abbrev pub commit_at : ℕ → List Note → Option ℕ → Option Tx
commit_at number notes None = None
commit_at number notes (Some place) = option_and_then (λ note. commit_asked number note.deed) (slice_get notes place)

-- the place of each number leads to its first commit ask, and to none where there is none
abbrev pub LeadToFirsts : List (ℕ × ℕ) → List Note → Type 0
LeadToFirsts places notes = (number : ℕ) → commit_at number notes (lookup (is_at (nat_cmp number)) places) ≡ commit_sent number notes
