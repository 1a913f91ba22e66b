-- Which asks of a trail are due in its journal.
use Rattle.std.specs.Prelude.{◌≡◌, ℕ, List, map}
use Rattle.dc_talk.specs.declared.ask.Ask.{Ask}
use Rattle.dc_talk.specs.Entries.{Entry}
use Rattle.trail_kept.specs.Kept.{kept}
use Rattle.journal_asks.specs.declared.kept_ask.KeptAsk.{KeptAsk}
use Rattle.journal_asks.specs.Spellings.{by_of}

-- the centre that it names, and the ask
abbrev pub asked : KeptAsk → ℕ × Ask
asked x = (x.by, x.ask)

-- what is due for an entry of centre me
abbrev pub due : ℕ → Entry → ℕ × Ask
due me entry = (by_of me entry.ask, entry.ask)

-- these are the asks of the trail whose replies are kept, in order
abbrev pub AreAsksOf : ℕ → List KeptAsk → List Entry → Type 0
AreAsksOf me items trail = map asked items ≡ map (due me) (kept trail)
