-- Asks that are answered one after another.
use Rattle.std.specs.Prelude.{◌≡◌, List, [], ◌∷◌, ◌++◌, map}
use Rattle.dc_talk.specs.declared.ask.Ask.{Ask}
use Rattle.dc_talk.specs.declared.say.Say.{Say}
use Rattle.dc_talk.specs.declared.settings.Settings.{Settings}
use Rattle.dc_talk.specs.Entries.{Entry}
use Rattle.dc_talk.specs.Answers.{answer}
use Rattle.machine_trail.specs.History.{entry}

-- the entries of these asks behind a trail, each with the answer after all entries before it
abbrev pub answered : Settings → List Entry → List Ask → List Entry
answered s trail [] = []
answered s trail (ask ∷ asks) = entry 0 ask (answer s trail ask) ∷ answered s (trail ++ entry 0 ask (answer s trail ask) ∷ []) asks

-- the reply in an entry
abbrev pub said_in : Entry → Say
said_in e = e.say

-- an entry but for who asked
abbrev pub of_any : Entry → Ask × Say
of_any e = (e.ask, e.say)

-- the entries are the same but for who asked
abbrev pub AreSame : List Entry → List Entry → Type 0
AreSame a b = map of_any a ≡ map of_any b
