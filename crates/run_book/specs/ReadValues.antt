-- Which notes are reads with a value, and what the value has to be.
use Rattle.std.specs.Prelude.{ℕ, Option, Some, None, slice_get}
use Rattle.ids_core.specs.declared.object.ObjectId.{ObjectId}
use Rattle.dc_talk.specs.declared.calls.Call.TheVariants.{Read}
use Rattle.dc_talk.specs.declared.calls.Outcome.TheVariants.{Got}
use Rattle.dc_talk.specs.declared.log.Deed.{Deed}
use Rattle.dc_talk.specs.declared.log.Deed.TheVariants.{Did}
use Rattle.dc_talk.specs.declared.log.Note.{Note}
use Rattle.run_book.specs.declared.book.Book.{Book}
use Rattle.run_book.specs.Parts.{notes_of}

-- the object that a deed read, where it got a value
abbrev pub read_in : Deed → Option ObjectId
read_in (Did (Read o) (Got value)) = Some o
read_in _ = None

-- the object that a note read, where there is a note, and where it got a value
abbrev pub read_of : Option Note → Option ObjectId
read_of None = None
read_of (Some note) = read_in note.deed

-- the object that actor a read at note m, where it got a value
abbrev pub object_read : Book → ℕ → ℕ → Option ObjectId
object_read b a m = read_of (slice_get (notes_of b a) m)
