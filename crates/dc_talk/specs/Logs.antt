-- What a log is seen as, and what its deeds made in the trails of the centres.
use Rattle.std.specs.Prelude.{◌≤◌, ℕ, ◌==◌, cond, List, [], ◌∷◌, ◌++◌, Option, Some, None}
use Rattle.std.specs.Option.{option_map, option_and_then, option_or}
use Rattle.std.specs.List.{filter_map}
use Rattle.list_core.specs.Choices.{when}
use Rattle.tx_core.specs.declared.tx.Tx.{Tx}
use Rattle.dc_talk.specs.declared.ask.Ask.{Ask}
use Rattle.dc_talk.specs.declared.ask.Ask.TheVariants.{Commit}
use Rattle.dc_talk.specs.declared.say.Say.{Say}
use Rattle.dc_talk.specs.declared.log.Fate.{Fate}
use Rattle.dc_talk.specs.declared.log.Fate.TheVariants.{AskLost, ReplyLost, Heard, Unheard}
use Rattle.dc_talk.specs.declared.log.Deed.{Deed}
use Rattle.dc_talk.specs.declared.log.Deed.TheVariants.{Asked}
use Rattle.dc_talk.specs.declared.log.Note.{Note}
use Rattle.dc_talk.specs.Entries.{Entry}

-- the actor, where it is in the script, and its notes in order
pub record Logged : Type 0 where
  pub actor : ℕ
  pub section : ℕ
  pub step : ℕ
  pub notes : List Note

-- a deed as a note of a section and step
abbrev pub marked : ℕ → ℕ → Deed → Note
marked section step deed = record { section = section; step = step; deed = deed }

-- the log with one more deed, at the section and step that it is at
abbrev pub noted : Logged → Deed → Logged
noted log deed = record log { notes = log.notes ++ marked log.section log.step deed ∷ [] }

-- the sections of the notes never fall, the first is at least one number and the last at most another
abbrev pub Ascend : ℕ → ℕ → List Note → Type 0
Ascend first last [] = Unit {0}
Ascend first last (note ∷ notes) = (first ≤ note.section) × (note.section ≤ last) × Ascend note.section last notes

-- what the centre answered, where the ask reached it
abbrev pub answered : Fate → Option Say
answered AskLost = None
answered (ReplyLost say) = Some say
answered (Heard say) = Some say
answered (Unheard say) = Some say

-- what a deed exchanged with centre i: the ask and the answer, where the ask went there and reached it
abbrev pub exchanged_in : ℕ → Deed → Option (Ask × Say)
exchanged_in i (Asked j ask fate) = cond (j == i) (option_map (λ say. (ask, say)) (answered fate)) None
exchanged_in i _ = None

-- the entry of what an actor exchanged with a centre
abbrev pub entry_for : ℕ → (Ask × Say) → Entry
entry_for actor pair = record { caller = actor; ask = pair.0; say = pair.1 }

-- the entry that a deed of an actor made in the trail of centre i, where it was an ask that reached that centre
abbrev pub entry_made : ℕ → ℕ → Deed → Option Entry
entry_made actor i deed = option_map (entry_for actor) (exchanged_in i deed)

-- the entries that deeds of an actor made in the trail of centre i, in order
abbrev pub entries_made : ℕ → ℕ → List Deed → List Entry
entries_made actor i deeds = filter_map (entry_made actor i) deeds

-- the transaction of a commit ask
abbrev pub commit_of : Deed → Option Tx
commit_of (Asked i (Commit tx) fate) = Some tx
commit_of _ = None

-- the same, where it has this number
abbrev pub commit_asked : ℕ → Deed → Option Tx
commit_asked number deed = option_and_then (λ tx. when (tx.dot.number == number) tx) (commit_of deed)

-- the transaction of the first commit ask with this number among the notes, whatever became of it
abbrev pub commit_sent : ℕ → List Note → Option Tx
commit_sent number [] = None
commit_sent number (note ∷ notes) = option_or (commit_asked number note.deed) (commit_sent number notes)
