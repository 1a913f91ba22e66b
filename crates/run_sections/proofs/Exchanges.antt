-- The entries of trails and the notes that exchanged them, where nothing is said of their order.
use Rattle.std.proofs.Common.{◌≡◌, ℕ, List, Some, None, sym, ap, subst}
use Rattle.std.specs.Prelude.{◌==◌, cond}
use Rattle.std.proofs.lemmas.Bool.{eq-eqb}
use Rattle.std.proofs.lemmas.Option.{cond_some}
use Rattle.list_core.specs.Members.{In}
use Rattle.list_core.proofs.Passing.{In_filter_map, In_from_filter_map}
use Rattle.dc_talk.specs.declared.ask.Ask.{Ask}
use Rattle.dc_talk.specs.declared.say.Say.{Say}
use Rattle.dc_talk.specs.declared.log.Note.{Note}
use Rattle.dc_talk.specs.Entries.{Entry}
use Rattle.dc_talk.specs.Logs.{exchanged_in}
use Rattle.run_book.specs.Parts.{exchanged, entries_by}
use Rattle.run_book.specs.Happenings.{HasAnswer}
use Rattle.run_book.proofs.Pairing.{IsExchange, exchanged_is, entry_by}

-- the note that exchanged an entry with centre i is one of these
pub record HasNote (notes : List Note) (i : ℕ) (entry : Entry) : Type 0 where
  pub note : Note
  pub there : In note notes
  pub exchange : IsExchange i note.deed entry.ask entry.say

module _ (i a : ℕ) (trail : List Entry) (notes : List Note) (paired : entries_by a trail ≡ exchanged i notes) where
  -- each entry of an actor was exchanged by one of its notes
  pub entry_noted : (entry : Entry) → entry.caller ≡ a → In entry trail → HasNote notes i entry
  entry_noted entry caller there =
      let pair : Ask × Say = (entry.ask, entry.say) in
      let own : entry_by a entry ≡ Some pair = ap (λ test. cond test (Some pair) None) (eq-eqb entry.caller a caller) in
      let among : In pair (exchanged i notes) = subst (λ pairs. In pair pairs) paired (In_filter_map (entry_by a) trail entry pair there own) in
      let from = In_from_filter_map (λ (note : Note). exchanged_in i note.deed) notes pair among in
      record { note = from.0; there = from.1; exchange = exchanged_is i from.0.deed entry.ask entry.say from.2 }

  -- what one of its notes exchanged stands in the trail
  pub note_entered : (note : Note) (ask : Ask) (say : Say) → In note notes → exchanged_in i note.deed ≡ Some (ask, say) → HasAnswer trail say
  note_entered note ask say there gives =
      let pair : Ask × Say = (ask, say) in
      let among : In pair (entries_by a trail) = subst (λ pairs. In pair pairs) (sym paired) (In_filter_map (λ (note : Note). exchanged_in i note.deed) notes note pair there gives) in
      let from = In_from_filter_map (entry_by a) trail pair among in
      let same = (cond_some (from.0.caller == a) (from.0.ask, from.0.say) pair from.2).1 in
      record { entry = from.0; there = from.1; says = ap (λ (pair : Ask × Say). pair.1) same }
