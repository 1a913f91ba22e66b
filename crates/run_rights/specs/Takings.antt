-- Logs of clients that check what they take from bounded counters.
use Rattle.std.specs.Prelude.{◌≡◌, ◌≤◌, ◌<◌, ℕ, ◌-◌, ℤ, pos, ◌≤ℤ◌, ◌⊎◌, true, List, Some, slice_get}
use Rattle.list_core.specs.Members.{In}
use Rattle.ids_core.specs.declared.object.ObjectId.{ObjectId}
use Rattle.ids_core.specs.declared.object.Sort.TheVariants.{Counter}
use Rattle.ids_core.specs.Ids.{same_object}
use Rattle.tx_core.specs.declared.state.Value.TheVariants.{Number as NumberValue}
use Rattle.dc_talk.specs.declared.calls.Change.{Change}
use Rattle.dc_talk.specs.declared.calls.Call.TheVariants.{Change as ChangeCall, Read}
use Rattle.dc_talk.specs.declared.calls.Outcome.TheVariants.{Fine, Got}
use Rattle.dc_talk.specs.declared.log.Deed.TheVariants.{Did}
use Rattle.dc_talk.specs.declared.log.Note.{Note}
use Rattle.run_book.specs.declared.book.Book.{Book}
use Rattle.run_book.specs.Setups.{Setup}
use Rattle.run_book.specs.Parts.{notes_of, IsClient}
use Rattle.run_steps.specs.Quiet.{IsQuiet}
use Rattle.graph_rights.specs.Rights.{amount_of, rights_by}

-- ---- what was read

-- a cell of a holder: it counts for it or against it
abbrev pub IsCellOf : List ObjectId → List ObjectId → ObjectId → Type 0
IsCellOf gains losses o = In o gains ⊎ In o losses

-- all cells are counters
abbrev pub AreCounters : List ObjectId → List ObjectId → Type 0
AreCounters gains losses = (o : ObjectId) → IsCellOf gains losses o → o.sort ≡ Counter

-- at a note before a place, and not before a first one, the actor read a number of the object
pub record ReadsNumber (b : Book) (a first place : ℕ) (o : ObjectId) (number : ℤ) : Type 0 where
  pub at : ℕ
  pub late : first ≤ at
  pub early : at < place
  pub note : Note
  pub there : slice_get (notes_of b a) at ≡ Some note
  pub deed_is : note.deed ≡ Did (Read o) (Got (NumberValue number))

-- before the note of a place the actor read of all cells of a holder what they were worth, with nothing but quiet deeds
-- since
pub record HasReadCells (b : Book) (a place : ℕ) (gains losses : List ObjectId) (value : ObjectId → ℤ) : Type 0 where
  pub first : ℕ
  pub few : first ≤ place
  pub quiet : (q : ℕ) (note : Note) → first ≤ q → q < place → slice_get (notes_of b a) q ≡ Some note → IsQuiet note.deed
  pub reads : (o : ObjectId) → IsCellOf gains losses o → ReadsNumber b a first place o (value o)

-- and by what it read the holder has as much
pub record HasEnough (b : Book) (a place : ℕ) (gains losses : List ObjectId) (amount : ℤ) : Type 0 where
  pub value : ObjectId → ℤ
  pub has_read : HasReadCells b a place gains losses value
  pub enough : amount ≤ℤ rights_by gains losses value

-- ---- what is taken

-- an actor's change of a cell, at a place of its log
pub record Changes (b : Book) (a place : ℕ) (cells : List ObjectId) (change : Change) : Type 0 where
  pub note : Note
  pub there : slice_get (notes_of b a) place ≡ Some note
  pub o : ObjectId
  pub deed_is : note.deed ≡ Did (ChangeCall o change) Fine
  pub cell : ObjectId
  pub among : In cell cells
  pub is : same_object o cell ≡ true

-- the clients add nothing below 0 to the cells of a holder; to those against it the owner alone adds, and only what it has
-- by what it read just before
pub record ChecksTakings (b : Book) (setup : Setup) (owner : ℕ) (gains losses : List ObjectId) : Type 0 where
  pub counters : AreCounters gains losses
  pub paid : (a place : ℕ) (cells : List ObjectId) (change : Change) → IsClient setup a → ((o : ObjectId) → In o cells → IsCellOf gains losses o) → Changes b a place cells change → pos 0 ≤ℤ amount_of change
  pub taken : (a place : ℕ) (change : Change) → IsClient setup a → Changes b a place losses change → a - 1 ≡ owner
  pub checked : (a place : ℕ) (change : Change) → IsClient setup a → Changes b a place losses change → HasEnough b a place gains losses (amount_of change)
