-- The journal of a trail as a file.
use Rattle.std.specs.Prelude.{◌≡◌, ◌≤◌, ℕ, List, [], ◌∷◌, ◌++◌}
use Rattle.ids_core.specs.declared.limits.TheConstants.{MOST_CENTRES, MOST_RECORDS}
use Rattle.journal_file.specs.Journal.{Entries}
use Rattle.dc_talk.specs.declared.ask.Ask.{Ask}
use Rattle.dc_talk.specs.declared.settings.Settings.{Settings}
use Rattle.dc_talk.specs.Entries.{Entry}
use Rattle.journal_asks.specs.declared.kept_ask.KeptAsk.{KeptAsk}
use Rattle.journal_asks.specs.Asks.{spelled}
use Rattle.dc_journal.specs.Asks.{AreAsksOf}

-- the numbers of a centre are in range
pub record AreNumbers (s : Settings) : Type 0 where
  pub centre : (1 ≤ s.me) × (s.me ≤ s.n)
  pub width : s.n ≤ MOST_CENTRES
  pub known : (1 ≤ s.k) × (s.k ≤ s.n)
  pub most : (1 ≤ s.limit) × (s.limit ≤ MOST_RECORDS)

-- what a centre was asked and what it answered, in order
abbrev pub Trail : Type 0
Trail = List Entry

-- the ask in an entry
abbrev pub ask_in : Entry → Ask
ask_in e = e.ask

-- the file is just the journal of the trail: the asks whose replies are kept, each behind an open gate, then a closed
-- gate, and nothing behind it
pub record IsJust (s : Settings) (trail : List Entry) (file : List ℕ) : Type 0 where
  pub items : List KeptAsk
  pub asks : AreAsksOf s.me items trail
  pub front : List ℕ
  pub entries : Entries spelled items front
  pub file_is : file ≡ front ++ 0 ∷ []
