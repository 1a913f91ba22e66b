-- What is told of the journal of a trail.
use Rattle.std.specs.Prelude.{ℕ, List, ◌++◌, length, codes, decimal}
use Rattle.dc_talk.specs.declared.settings.Settings.{Settings}
use Rattle.dc_talk.specs.Entries.{Entry}
use Rattle.dc_talk.specs.Records.{vector}
use Rattle.dc_talk.specs.Trails.{applied}
use Rattle.trail_kept.specs.Kept.{kept}
use Rattle.print_text.specs.Text.{vector_text}
use Rattle.trail_journal.specs.declared.told.Told.{Told}

-- of the journal of a trail, with its file: the centre, how many entries of the trail are kept, how long the file is, and
-- how many records of each centre there are after the trail
abbrev pub told_of : Settings → List Entry → List ℕ → Told
told_of s trail file = record { centre = s.me; entries = length (kept trail); bytes = length file; vector = vector s.n (applied s.n trail) }

-- the line of a journal, with its line feed
abbrev pub journal_line : Told → List ℕ
journal_line told = codes "journal " ++ decimal told.centre ++ codes " entries " ++ decimal told.entries ++ codes " bytes " ++ decimal told.bytes ++ codes " vector " ++ vector_text told.vector ++ codes "\n"
