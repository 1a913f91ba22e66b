-- What K centres are known to have, by the trails and logs of a book.
use Rattle.std.specs.Prelude.{◌≡◌, ◌≢◌, ◌≤◌, ◌<◌, ℕ, true, length, take, List, Some, count_by, slice_get}
use Rattle.list_core.specs.Members.{In}
use Rattle.ids_core.specs.declared.ids.Dot.{Dot}
use Rattle.vv_core.specs.declared.stamp.Stamp.{Stamp}
use Rattle.vv_core.specs.Vectors.{within}
use Rattle.tx_core.specs.declared.tx.Record.{Record}
use Rattle.dc_talk.specs.declared.say.Say.TheVariants.{Snap, Vector}
use Rattle.dc_talk.specs.declared.log.Fate.TheVariants.{Heard}
use Rattle.dc_talk.specs.declared.log.Deed.TheVariants.{Asked}
use Rattle.dc_talk.specs.declared.log.Note.{Note}
use Rattle.dc_talk.specs.Entries.{Entry}
use Rattle.dc_talk.specs.Records.{vector}
use Rattle.dc_talk.specs.Trails.{rows}
use Rattle.run_book.specs.declared.book.Book.{Book}
use Rattle.run_book.specs.Setups.{Setup, centre_settings}
use Rattle.run_book.specs.Parts.{trail_of, notes_of, applied_at, exchanged, entries_by}
use Rattle.run_book.specs.Graphs.{own_list}
use Rattle.dc_talk.specs.declared.settings.Settings.{Settings}
use Rattle.dc_talk.specs.declared.ask.Ask.{Ask}

-- a centre knows, after a trail of it, K centres to have the stamp: so many of its rows cover it, which are
-- the vectors of the centres as far as it knows them
abbrev pub IsKnownAt : Settings → List Entry → Stamp → Type 0
IsKnownAt settings trail stamp = settings.k ≤ count_by (within stamp) (rows settings trail)

-- at note m actor a heard a snapshot of a centre, whose entry stands at a place of the centre's trail: as
-- many of the actor's entries stand before it as asks of its log reached the centre before the note
pub record HeardSnapshot (b : Book) (a m : ℕ) : Type 0 where
  pub note : Note
  pub there : slice_get (notes_of b a) m ≡ Some note
  pub centre : ℕ
  pub ask : Ask
  pub snap : List ℕ
  pub mine : ℕ
  pub top : ℕ
  pub heard : note.deed ≡ Asked centre ask (Heard (Snap snap mine top))
  pub place : ℕ
  pub entry : slice_get (trail_of b centre) place ≡ Some (record { caller = a; ask = ask; say = Snap snap mine top })
  pub before : length (entries_by a (take place (trail_of b centre))) ≡ length (exchanged centre (take m (notes_of b a)))

-- a transaction was known to K centres, by one of its stamps, at a snapshot that actor a heard before note m
pub record IsKnown (b : Book) (setup : Setup) (a m : ℕ) (d : Dot) : Type 0 where
  pub item : Record
  pub there : In item (own_list b item.stamp.centre)
  pub dot : item.tx.dot ≡ d
  pub earlier : ℕ
  pub before : earlier < m
  pub snapshot : HeardSnapshot b a earlier
  pub known : IsKnownAt (centre_settings b setup snapshot.centre) (take snapshot.place (trail_of b snapshot.centre)) item.stamp

-- after so many entries of its own trail centre j has the stamp
pub record HasMoment (b : Book) (j : ℕ) (stamp : Stamp) : Type 0 where
  pub centre : (1 ≤ j) × (j ≤ b.n)
  pub place : ℕ
  pub few : place ≤ length (trail_of b j)
  pub covers : within stamp (vector b.n (applied_at b j place)) ≡ true

-- centre j answered a report with its vector, and the vector covers the stamp
pub record HasReported (b : Book) (j : ℕ) (stamp : Stamp) : Type 0 where
  pub centre : (1 ≤ j) × (j ≤ b.n)
  pub place : ℕ
  pub entry : Entry
  pub there : slice_get (trail_of b j) place ≡ Some entry
  pub says : entry.say ≡ Vector (vector b.n (applied_at b j place))
  pub covers : within stamp (vector b.n (applied_at b j place)) ≡ true

-- every centre has the stamp at a moment of its own trail, and each but centre i has reported so
pub record IsKnownToAll (b : Book) (i : ℕ) (stamp : Stamp) : Type 0 where
  pub moments : (j : ℕ) → 1 ≤ j → j ≤ b.n → HasMoment b j stamp
  pub reports : (j : ℕ) → 1 ≤ j → j ≤ b.n → j ≢ i → HasReported b j stamp

-- at a moment of the trail the centre knew K centres to have the stamp
pub record WasKnownBy (settings : Settings) (trail : List Entry) (stamp : Stamp) : Type 0 where
  pub place : ℕ
  pub known : IsKnownAt settings (take place trail) stamp
