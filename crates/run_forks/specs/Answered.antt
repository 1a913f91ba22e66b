-- What happened, by the trails that it left alone.
use Rattle.std.specs.Prelude.{ℕ, List}
use Rattle.list_core.specs.Members.{In}
use Rattle.run_book.specs.Setups.{Setup}
use Rattle.run_book.specs.Happenings.{Happened, GoesToOneOf, AreHistories}

-- each ask went to one of n centres, of which k have to know an update before it is stable, and each answer is the one
-- that its centre gives after the entries before it
pub record AreAnswered (n k : ℕ) (setup : Setup) (all : List Happened) : Type 0 where
  pub reach : (one : Happened) → In one all → GoesToOneOf n one.note.deed
  pub histories : AreHistories n k setup all
