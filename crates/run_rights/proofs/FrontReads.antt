-- What the front of a step's deeds reads of a holder's cells, is read in the log just before the place behind it.
use Rattle.std.proofs.Common.{◌≡◌, ℕ, ◌+◌, ◌-◌, ◌≤◌, ◌<◌, ℤ, List, ◌++◌, length, Some, sym, ap, ◌∙◌, subst, arith}
use Rattle.std.specs.Prelude.{slice_get, All}
use Rattle.std.proofs.lemmas.Option.{slice_get_within}
use Rattle.list_core.specs.Members.{In}
use Rattle.list_core.proofs.Gets.{all_get, In_get, get_in_front}
use Rattle.ids_core.specs.declared.object.ObjectId.{ObjectId}
use Rattle.tx_core.specs.declared.state.Value.TheVariants.{Number as NumberValue}
use Rattle.dc_talk.specs.declared.calls.Call.TheVariants.{Read}
use Rattle.dc_talk.specs.declared.calls.Outcome.TheVariants.{Got}
use Rattle.dc_talk.specs.declared.log.Deed.{Deed}
use Rattle.dc_talk.specs.declared.log.Deed.TheVariants.{Did}
use Rattle.dc_talk.specs.declared.log.Note.{Note}
use Rattle.run_book.specs.declared.book.Book.{Book}
use Rattle.run_book.specs.Parts.{notes_of}
use Rattle.run_sections.specs.Orders.{deeds_of}
use Rattle.run_steps.specs.Quiet.{IsQuiet}
use Rattle.run_steps.proofs.Places.{get_behind, get_front_of, get_deed, InStep}
use Rattle.graph_rights.proofs.Images.{get_unmap}
use Rattle.run_rights.specs.Takings.{IsCellOf, ReadsNumber, HasReadCells}

module _ (b : Book) (a p : ℕ) (last : Note) (Step : List Deed → Type 0) (s : InStep Step (notes_of b a) p last) (front rest : List Deed) (whole : deeds_of s.mine ≡ front ++ rest) (upto : s.place ≡ length front) where
  -- a note of the step stands in the log
  in_log : (j : ℕ) (note : Note) → slice_get s.mine j ≡ Some note → slice_get (notes_of b a) (length s.before + j) ≡ Some note
  in_log j note at = ap (λ l. slice_get l (length s.before + j)) s.whole ∙ (get_behind s.before (s.mine ++ s.later) j ∙ get_in_front s.mine s.later j note at)

  -- from its first note to the place all is quiet
  quiet_notes : All IsQuiet front → (q : ℕ) (note : Note) → length s.before ≤ q → q < p → slice_get (notes_of b a) q ≡ Some note → IsQuiet note.deed
  quiet_notes quiet q note low high at =
      let j : ℕ = q - length s.before in
      let e : length s.before + j ≡ q = omega (arith, low) in
      let less : j < s.place = omega (arith, e, high, s.upto) in
      let end = slice_get_within s.mine s.place last s.there in
      let here : slice_get (s.mine ++ s.later) j ≡ Some note = sym (get_behind s.before (s.mine ++ s.later) j) ∙ (ap (λ l. slice_get l (length s.before + j)) (sym s.whole) ∙ (ap (slice_get (notes_of b a)) e ∙ at)) in
      let mine = get_deed s.mine j note (get_front_of s.mine s.later j note (omega (arith, less, end)) here) in
      let split : slice_get (front ++ rest) j ≡ Some note.deed = subst (λ l. slice_get l j ≡ Some note.deed) whole mine in
      all_get IsQuiet front j note.deed quiet (get_front_of front rest j note.deed (omega (arith, less, upto)) split)

  -- a number that is read there
  number_there : (o : ObjectId) (number : ℤ) → In (Did (Read o) (Got (NumberValue number))) front → ReadsNumber b a (length s.before) p o number
  number_there o number i =
      let deed : Deed = Did (Read o) (Got (NumberValue number)) in
      let g = In_get front deed i in
      let within = slice_get_within front g.0 deed g.1 in
      let all : slice_get (deeds_of s.mine) g.0 ≡ Some deed = subst (λ l. slice_get l g.0 ≡ Some deed) (sym whole) (get_in_front front rest g.0 deed g.1) in
      let n = get_unmap (λ (note : Note). note.deed) s.mine g.0 deed all in
      record { at = length s.before + g.0; late = omega arith; early = omega (arith, within, upto, s.upto); note = n.0; there = in_log g.0 n.0 n.1; deed_is = n.2 }

  -- so the cells are read
  pub has_read : (gains losses : List ObjectId) (value : ObjectId → ℤ) → All IsQuiet front → ((o : ObjectId) → IsCellOf gains losses o → In (Did (Read o) (Got (NumberValue (value o)))) front) → HasReadCells b a p gains losses value
  has_read gains losses value quiet reads = record {
    first = length s.before;
    few = omega (arith, s.upto);
    quiet = quiet_notes quiet;
    reads = λ o among. number_there o (value o) (reads o among);
  }
