-- The bytes of an ask in a journal.
use Rattle.std.specs.Prelude.{◌≡◌, ◌++◌, ℕ, List, length, drop, Option, Some, IfSome}
use Rattle.journal_asks.specs.declared.kept_ask.KeptAsk.{KeptAsk}
use Rattle.journal_asks.specs.Spellings.{ask_bytes}

-- its kind, and its frame
abbrev pub spelled : KeptAsk → List ℕ
spelled x = ask_bytes x.by x.ask

-- what was found is the ask with which these bytes begin, and how many it has; none where they begin with none
pub record IsFront (bytes : List ℕ) (found : Option (KeptAsk × ℕ)) : Type 0 where
  pub only : (x : KeptAsk) (rest : List ℕ) → bytes ≡ spelled x ++ rest → found ≡ Some (x, length (spelled x))
  pub is : IfSome found (λ p. bytes ≡ spelled p.0 ++ drop p.1 bytes)
  pub count : IfSome found (λ p. p.1 ≡ length (spelled p.0))
