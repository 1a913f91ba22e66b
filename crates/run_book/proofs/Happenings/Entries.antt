-- Whose entries and notes stand in the trails and logs of what happened, and how more of an actor joins them.
use Rattle.std.proofs.Common.{◌≡◌, ◌≢◌, ℕ, Bool, true, false, cond, List, [], ◌∷◌, ◌++◌, map, Option, Some, None, refl, sym, ap, ◌∙◌, subst}
use Rattle.std.specs.Prelude.{◌==◌}
use Rattle.std.specs.List.{cons_option}
use Rattle.std.specs.Option.{option_map}
use Rattle.std.proofs.lemmas.Bool.{eqb-true, eq-eqb, ne_eqb}
use Rattle.std.proofs.lemmas.Option.{none-some, same_Some, cond_some}
use Rattle.std.proofs.lemmas.List.{append-nil}
use Rattle.std.proofs.lemmas.List.Elements.{filter_map-append}
use Rattle.list_core.specs.Members.{In}
use Rattle.list_core.proofs.Passing.{In_from_filter_map}
use Rattle.dc_talk.specs.declared.ask.Ask.{Ask}
use Rattle.dc_talk.specs.declared.say.Say.{Say}
use Rattle.dc_talk.specs.declared.log.Fate.{Fate}
use Rattle.dc_talk.specs.declared.log.Deed.{Deed}
use Rattle.dc_talk.specs.declared.log.Deed.TheVariants.{Asked}
use Rattle.dc_talk.specs.declared.log.Note.{Note}
use Rattle.dc_talk.specs.Entries.{Entry}
use Rattle.dc_talk.specs.Logs.{marked, answered, exchanged_in, entry_for, entry_made, entries_made}
use Rattle.run_book.specs.Parts.{exchanged, entries_by}
use Rattle.run_book.specs.Happenings.{Happened, note_by, notes_by, entry_in, trail_in, happening, HasAnswer}
use Rattle.run_book.proofs.Pairing.{IsExchange, exchanged_is, entry_by}
use Rattle.run_book.proofs.Filtered.{and_then, filtered_twice}

-- ---- what an entry comes from

-- an entry that something made at centre i: its caller is the actor, who exchanged it there
pub record IsMade (i : ℕ) (h : Happened) (entry : Entry) : Type 0 where
  pub caller : entry.caller ≡ h.actor
  pub exchange : IsExchange i h.note.deed entry.ask entry.say

-- so is each entry that it made
pub made_by : (i : ℕ) (h : Happened) (entry : Entry) → entry_in i h ≡ Some entry → IsMade i h entry
made_by i h entry is = go (exchanged_in i h.note.deed) refl is
  where
    go : (o : Option (Ask × Say)) → exchanged_in i h.note.deed ≡ o → option_map (entry_for h.actor) o ≡ Some entry → IsMade i h entry
    go None same is = absurd (none-some entry is)
    go (Some pair) same is = subst (IsMade i h) (same_Some (entry_for h.actor pair) entry is) (record {
      caller = refl;
      exchange = exchanged_is i h.note.deed pair.0 pair.1 same;
    })

-- what an actor did is a note of its own
pub own_note : (h : Happened) → note_by h.actor h ≡ Some h.note
own_note h = ap (λ b. cond b (Some h.note) None) (eq-eqb h.actor h.actor refl)

-- a note of an actor is what the actor did
pub note_made : (a : ℕ) (h : Happened) (note : Note) → note_by a h ≡ Some note → (h.actor ≡ a) × (h.note ≡ note)
note_made a h note is = let parts = cond_some (h.actor == a) h.note note is in (eqb-true h.actor a parts.0, parts.1)

-- ---- pairing

-- what the entries of an actor exchanged is what its notes exchanged
pub paired_in : (i a : ℕ) (all : List Happened) → entries_by a (trail_in i all) ≡ exchanged i (notes_by a all)
paired_in i a all = filtered_twice (entry_in i) (entry_by a) (note_by a) (λ (note : Note). exchanged_in i note.deed) each all
  where
    by_entry : (actor : ℕ) (o : Option (Ask × Say)) → and_then (option_map (entry_for actor) o) (entry_by a) ≡ cond (actor == a) o None
    by_entry actor (Some pair) = refl
    by_entry actor None = none (actor == a) None refl
      where
        none : (b : Bool) (o : Option (Ask × Say)) → o ≡ None → o ≡ cond b o None
        none true o same = refl
        none false o same = same

    by_note : (b : Bool) (note : Note) → and_then (cond b (Some note) None) (λ (note : Note). exchanged_in i note.deed) ≡ cond b (exchanged_in i note.deed) None
    by_note true note = refl
    by_note false note = refl

    each : (h : Happened) → and_then (entry_in i h) (entry_by a) ≡ and_then (note_by a h) (λ (note : Note). exchanged_in i note.deed)
    each h = by_entry h.actor (exchanged_in i h.note.deed) ∙ sym (by_note (h.actor == a) h.note)

-- ---- answers

-- an ask of centre i that it answered so
pub record WasAnswered (all : List Happened) (i : ℕ) (say : Say) : Type 0 where
  pub it : Happened
  pub there : In it all
  pub ask : Ask
  pub fate : Fate
  pub is : it.note.deed ≡ Asked i ask fate
  pub told : answered fate ≡ Some say

-- an answer in a trail was given to an ask
pub answer_given : (i : ℕ) (all : List Happened) (say : Say) → HasAnswer (trail_in i all) say → WasAnswered all i say
answer_given i all say has =
    let from = In_from_filter_map (entry_in i) all has.entry has.there in
    let made = made_by i from.0 has.entry from.2 in
    record { it = from.0; there = from.1; ask = has.entry.ask; fate = made.exchange.fate; is = made.exchange.is; told = made.exchange.told ∙ ap Some has.says }

-- ---- more of an actor

-- what an actor noted makes its entries
made_happening : (actor i : ℕ) (more : List Note) → trail_in i (happening actor more) ≡ entries_made actor i (map (λ (note : Note). note.deed) more)
made_happening actor i [] = refl
made_happening actor i (note ∷ more) = ap (cons_option (entry_made actor i note.deed)) (made_happening actor i more)

-- it is the actor's notes, and no other's
own_happening : (actor : ℕ) (more : List Note) → notes_by actor (happening actor more) ≡ more
own_happening actor [] = refl
own_happening actor (note ∷ more) =
    ap (λ o. cons_option o (notes_by actor (happening actor more))) (own_note (record { actor = actor; note = note }))
    ∙ ap (λ notes. note ∷ notes) (own_happening actor more)

other_happening : (actor a : ℕ) (more : List Note) → actor ≢ a → notes_by a (happening actor more) ≡ []
other_happening actor a [] other = refl
other_happening actor a (note ∷ more) other =
    ap (λ test. cons_option (cond test (Some note) None) (notes_by a (happening actor more))) (ne_eqb actor a other) ∙ other_happening actor a more other

-- the trail of a centre after more of an actor
pub trail_then : (actor i : ℕ) (all : List Happened) (more : List Note) → trail_in i (all ++ happening actor more) ≡ trail_in i all ++ entries_made actor i (map (λ (note : Note). note.deed) more)
trail_then actor i all more = filter_map-append (entry_in i) all (happening actor more) ∙ ap (λ es. trail_in i all ++ es) (made_happening actor i more)

-- its notes then
pub own_then : (actor : ℕ) (all : List Happened) (more : List Note) → notes_by actor (all ++ happening actor more) ≡ notes_by actor all ++ more
own_then actor all more = filter_map-append (note_by actor) all (happening actor more) ∙ ap (λ ns. notes_by actor all ++ ns) (own_happening actor more)

-- those of another actor
pub other_then : (actor a : ℕ) (all : List Happened) (more : List Note) → actor ≢ a → notes_by a (all ++ happening actor more) ≡ notes_by a all
other_then actor a all more other = filter_map-append (note_by a) all (happening actor more) ∙ (ap (λ ns. notes_by a all ++ ns) (other_happening actor a more other) ∙ append-nil (notes_by a all))

-- the deeds of notes that were made of them
pub deeds_marked : (section step : ℕ) (deeds : List Deed) → map (λ (note : Note). note.deed) (map (marked section step) deeds) ≡ deeds
deeds_marked section step [] = refl
deeds_marked section step (deed ∷ deeds) = ap (λ ds. deed ∷ ds) (deeds_marked section step deeds)

-- the trail of a centre, and the notes of an actor, with one more
pub trail_more : (i : ℕ) (all : List Happened) (one : Happened) → trail_in i (all ++ one ∷ []) ≡ trail_in i all ++ cons_option (entry_in i one) []
trail_more i all one = filter_map-append (entry_in i) all (one ∷ [])

pub notes_more : (a : ℕ) (all : List Happened) (one : Happened) → notes_by a (all ++ one ∷ []) ≡ notes_by a all ++ cons_option (note_by a one) []
notes_more a all one = filter_map-append (note_by a) all (one ∷ [])
