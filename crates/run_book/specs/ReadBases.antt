-- What the reads of a client stand on whose values its log tells, each dot once and in order.
use Rattle.std.specs.Prelude.{ℕ, ◌-◌, Bool, true, false, cond, filter, flat_map, length, map, slice_get, slice_index_or, take, List, [], ◌∷◌, ◌++◌, Option, Some, None}
use Rattle.std.specs.List.{range_with_len}
use Rattle.std.specs.declared.cmp.Ordering.TheVariants.{Less, Equal, Greater}
use Rattle.ids_core.specs.declared.ids.Dot.{Dot}
use Rattle.ids_core.specs.Orders.{dot_cmp}
use Rattle.vv_core.specs.Vectors.{at, centres}
use Rattle.dc_talk.specs.Clients.{Client}
use Rattle.dc_talk.specs.declared.log.Deed.{Deed}
use Rattle.dc_talk.specs.declared.log.Deed.TheVariants.{Told}
use Rattle.dc_talk.specs.declared.log.Note.{Note}
use Rattle.dc_talk.specs.declared.line.Line.TheVariants.{ReadValue}
use Rattle.run_book.specs.declared.book.Book.{Book}
use Rattle.run_book.specs.declared.replay.Replay.{Replay}
use Rattle.run_book.specs.Setups.{Setup}
use Rattle.run_book.specs.Parts.{trail_of, notes_of}
use Rattle.run_book.specs.Graphs.{basis, basis_at, own_dots}
use Rattle.run_book.specs.Basis.{stamped_dots}

-- a dot among dots that stand in order by client and number: once, and in its place
abbrev pub in_place : Dot → List Dot → List Dot
in_place dot [] = dot ∷ []
in_place dot (first ∷ rest) = elim (dot_cmp dot first) [ Less ↦ dot ∷ first ∷ rest | Equal ↦ first ∷ rest | Greater ↦ first ∷ in_place dot rest ]

-- dots by client and number, each once
abbrev pub in_order : List Dot → List Dot
in_order [] = []
in_order (dot ∷ dots) = in_place dot (in_order dots)

-- whether a deed tells a value that was read
abbrev pub tells_value : Deed → Bool
tells_value (Told (ReadValue client object value)) = true
tells_value _ = false

-- whether a note does, where there is one
abbrev pub note_tells : Option Note → Bool
note_tells None = false
note_tells (Some note) = tells_value note.deed

-- the notes of actor a that tell the value of a read, counted from 0. The reads in a step of a bounded counter have none.
abbrev pub reads_of : Book → ℕ → List ℕ
reads_of b a = filter (λ m. note_tells (slice_get (notes_of b a) m)) (range_with_len 0 (length (notes_of b a)))

-- what each of these reads stands on, in order: at the note that tells its value a client stands as it did at the read
abbrev pub bases_of : Book → Setup → ℕ → List (List Dot)
bases_of b setup a = map (λ m. in_order (basis_at b setup a m)) (reads_of b a)

-- ---- as they are computed

-- the dots of the commits that each centre stamped, those of centre 1 first
abbrev pub stamped_lists : Book → List (List Dot)
stamped_lists b = map (λ e. stamped_dots (trail_of b e)) (centres b.n)

-- those of centre e
abbrev pub stamped_at : List (List Dot) → ℕ → List Dot
stamped_at stamped e = slice_index_or stamped (e - 1) []

-- what the client of a replay stands on, where each centre stamped these
abbrev pub basis_by : List (List Dot) → Replay → List Dot
basis_by stamped r = flat_map (λ e. take (at r.vector e) (stamped_at stamped e)) (centres (length r.vector)) ++ own_dots r.client r.own

-- what a client stands on where a deed of it tells a value that was read, and nothing at other deeds
abbrev pub basis_told : Book → Client → Deed → List (List Dot)
basis_told b s deed = cond (tells_value deed) (in_order (basis b s) ∷ []) []
