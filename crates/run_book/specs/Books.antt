-- What the trails of a book are seen as.
use Rattle.std.specs.Prelude.{List, map}
use Rattle.dc_talk.specs.Entries.{Entry}
use Rattle.machine_trail.specs.History.{TrailView}
use Rattle.dc_talk.specs.declared.ask.Ask.{Ask}
use Rattle.dc_talk.specs.declared.say.Say.{Say}

-- the entries of each trail
abbrev pub entries_of : List (TrailView Ask Say) → List (List Entry)
entries_of trails = map (λ trail. trail.entries) trails
