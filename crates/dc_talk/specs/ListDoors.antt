-- A door that answers from a prepared list.
use Rattle.std.specs.Prelude.{ℕ, true, ◌==◌, cond, List, [], ◌∷◌, Option, Some, None}
use Rattle.std.specs.List.{filter_map}
use Rattle.ids_core.specs.declared.limits.TheConstants.{MOST_CENTRES}
use Rattle.dc_talk.specs.declared.ask.Ask.{Ask}
use Rattle.dc_talk.specs.declared.say.Say.{Say}
use Rattle.dc_talk.specs.declared.say.Say.TheVariants.{Down}
use Rattle.dc_talk.specs.Entries.{Entry}
use Rattle.dc_talk.specs.Doors.{DoorView, belongs}

-- the answers that are left, and the entries that were made, in order, each with the number of its centre
pub record ListDoorView : Type 0 where
  pub answers : List Say
  pub entries : List (ℕ × Entry)

-- the entry, where it was made at centre i
abbrev pub entry_at : ℕ → (ℕ × Entry) → Option Entry
entry_at i made = cond (made.0 == i) (Some made.1) None

-- the entries that were made at centre i, in order
abbrev pub entries_at : ℕ → List (ℕ × Entry) → List Entry
entries_at i entries = filter_map (entry_at i) entries

-- what is seen of it as a door: it is alone, and knows of what it made
abbrev pub shown_of : ListDoorView → DoorView
shown_of door = record {
  actor = 1;
  centres = MOST_CENTRES;
  alone = true;
  made = λ i. entries_at i door.entries;
  seen = λ i. entries_at i door.entries;
}

-- the answer to an ask: the first of the list, or Down where there is none or where it may not be given
abbrev pub next_answer : List Say → Ask → Say
next_answer [] ask = Down
next_answer (say ∷ says) ask = cond (belongs ask say) say Down
