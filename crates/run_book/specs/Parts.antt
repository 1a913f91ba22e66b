-- The parts of a book, and how its logs and trails tell of one another.
use Rattle.std.specs.Prelude.{ℕ, zero, suc, ◌+◌, ◌≤◌, cond, ◌==◌, take, filter, List, [], Some, None, is_some, slice_index_or}
use Rattle.std.specs.List.{filter_map}
use Rattle.tx_core.specs.declared.tx.Record.{Record}
use Rattle.dc_talk.specs.declared.ask.Ask.{Ask}
use Rattle.dc_talk.specs.declared.say.Say.{Say}
use Rattle.dc_talk.specs.declared.log.Note.{Note}
use Rattle.dc_talk.specs.Entries.{Entry}
use Rattle.dc_talk.specs.Logs.{Logged, exchanged_in}
use Rattle.dc_talk.specs.Trails.{Horizon, applied, horizon}
use Rattle.run_book.specs.declared.book.Book.{Book}
use Rattle.run_book.specs.Setups.{Setup, centre_settings}

-- the trail of centre i, and no entries for a number that is no centre's
abbrev pub trail_of : Book → ℕ → List Entry
trail_of b zero = []
trail_of b (suc i) = slice_index_or b.trails i []

-- the records that centre i has applied by the first p entries of its trail
abbrev pub applied_at : Book → ℕ → ℕ → List Record
applied_at b i p = applied b.n (take p (trail_of b i))

-- the records that centre i has applied by the end of its trail
abbrev pub applied_by_end : Book → ℕ → List Record
applied_by_end b i = applied b.n (trail_of b i)

-- how far centre i has pruned by the first p entries of its trail
abbrev pub horizon_at : Book → Setup → ℕ → ℕ → Horizon
horizon_at b setup i p = horizon (centre_settings b setup i) (take p (trail_of b i))

-- a log without notes
abbrev pub idle_log : ℕ → Logged
idle_log actor = record { actor = actor; section = 0; step = 0; notes = [] }

-- the log of actor a, and one without notes for a number that is no actor's
abbrev pub log_of : Book → ℕ → Logged
log_of b zero = idle_log 0
log_of b (suc a) = slice_index_or b.logs a (idle_log 0)

-- the notes of actor a
abbrev pub notes_of : Book → ℕ → List Note
notes_of b a = (log_of b a).notes

-- actor a is one of the clients
pub record IsClient (setup : Setup) (a : ℕ) : Type 0 where
  pub low : 2 ≤ a
  pub high : a ≤ setup.clients + 1

-- what the notes exchanged with centre i, in order
abbrev pub exchanged : ℕ → List Note → List (Ask × Say)
exchanged i notes = filter_map (λ note. exchanged_in i note.deed) notes

-- the notes of the asks that reached centre i, in order
abbrev pub reached : ℕ → List Note → List Note
reached i notes = filter (λ note. is_some (exchanged_in i note.deed)) notes

-- what the entries of caller a in a trail exchanged, in order
abbrev pub entries_by : ℕ → List Entry → List (Ask × Say)
entries_by a trail = filter_map (λ entry. cond (entry.caller == a) (Some (entry.ask, entry.say)) None) trail
