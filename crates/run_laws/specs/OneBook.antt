-- When two books tell the same.
use Rattle.std.specs.Prelude.{◌≡◌, map}
use Rattle.dc_talk.specs.Logs.{Logged}
use Rattle.print_text.specs.Text.{text_of}
use Rattle.run_book.specs.declared.book.Book.{Book}

-- a log by its actor and its notes alone, wherever in the script it has come to
abbrev pub told_log : Logged → Logged
told_log log = record log { section = 0; step = 0 }

-- two books are one: they are of as many centres, of which as many have to know an update, and have the same trails;
-- they have logs of the same actors with the same notes, in the same order; and their texts are the same
pub record AreOne (b c : Book) : Type 0 where
  pub n : b.n ≡ c.n
  pub k : b.k ≡ c.k
  pub trails : b.trails ≡ c.trails
  pub logs : map told_log b.logs ≡ map told_log c.logs
  pub texts : text_of b.logs ≡ text_of c.logs
