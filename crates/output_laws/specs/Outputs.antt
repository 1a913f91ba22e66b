-- When what two runs of the program owe is the same.
use Rattle.std.specs.Prelude.{◌≡◌, ◌⊎◌, ⊤, ℕ, List, Option, Some, Ok}
use Rattle.command_line.specs.declared.form.Form.{Form}
use Rattle.command_line.specs.declared.form.Form.TheVariants.{Run, Load}
use Rattle.command_line.specs.Forms.{spelled}
use Rattle.io_edge.specs.Streams.{puts_behind}
use Rattle.script_core.specs.declared.script.Script.{Script}
use Rattle.script_reader.specs.Scripts.{script_read}
use Rattle.run_sections.specs.Runs.{HasNoPhase}
use Rattle.top_call.specs.Runs.{Given, IsDone, IsRefusal, IsUsage, Wrote}
use Rattle.top_call.specs.declared.engine.Owed.{Owed}
use Rattle.top_call.specs.declared.ending.Ended.{Ended}
use Rattle.run_laws.specs.OneBook.{AreOne}

-- what a run is given by these words, with these bytes as its input and a sink that has taken this
abbrev pub given_bytes : List (List ℕ) → List ℕ → Option (List ℕ) → Given
given_bytes words bytes taken = record { words = words; left = Some bytes; taken = taken }

-- the bytes are no script with a phase
abbrev pub HaveNoPhase : List ℕ → Type 0
HaveNoPhase bytes = (script : Script) → script_read bytes ≡ Ok script → HasNoPhase script

-- a form whose output follows from these bytes as its input: `load` never, and `run` where no phase is played, since
-- threads have no fixed order; each other form
abbrev pub IsFixed : List ℕ → Form → Type 0
IsFixed bytes (Run trail) = HaveNoPhase bytes
IsFixed bytes (Load num) = ⊥
IsFixed bytes form = ⊤

-- words that spell no other form
abbrev pub AreFixed : List (List ℕ) → List ℕ → Type 0
AreFixed words bytes = (form : Form) → words ≡ spelled form → IsFixed bytes form

-- the same status, the same text and books that are one
pub record AreAlike (one two : Owed) : Type 0 where
  pub status : one.status ≡ two.status
  pub text : one.text.items ≡ two.text.items
  pub book : AreOne one.book two.book

-- the status of a run in which nothing failed
abbrev pub IsWhole : ℕ → Type 0
IsWhole status = (status ≡ 0) ⊎ ((status ≡ 2) ⊎ (status ≡ 3))

-- a run in which nothing failed, by these words, with these bytes as its input and a sink that had taken this: it ended
-- so, and its sink, which has taken this now, took the text that is owed
pub record IsWholeRun (words : List (List ℕ)) (bytes : List ℕ) (taken : Option (List ℕ)) (ended : Ended) (now : Option (List ℕ)) : Type 0 where
  pub status : IsWhole ended.status
  pub done : ended.status ≡ 0 → Wrote IsDone (given_bytes words bytes taken) ended now
  pub misused : ended.status ≡ 2 → Wrote IsUsage (given_bytes words bytes taken) ended now
  pub refused : ended.status ≡ 3 → Wrote IsRefusal (given_bytes words bytes taken) ended now

-- two runs ended with one status and books that are one, and both sinks took the same text behind what they had taken
pub record PrintAlike (one two : Ended) (taken again now later : Option (List ℕ)) : Type 0 where
  pub status : one.status ≡ two.status
  pub book : AreOne one.book two.book
  pub text : List ℕ
  pub first : now ≡ puts_behind text taken
  pub other : later ≡ puts_behind text again
