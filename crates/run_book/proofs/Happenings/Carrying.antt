-- What an actor carries from one centre to another as its own deeds brought it, a carrier may do.
use Rattle.std.proofs.Common.{◌≡◌, ℕ, inl, inr, ⊎_elim, List, [], ◌∷◌, ◌++◌, length, map, take, Some, refl, sym, ap, ◌∙◌, subst, append_assoc}
use Rattle.std.specs.Prelude.{All}
use Rattle.std.specs.List.{cons_option}
use Rattle.std.specs.Option.{option_map}
use Rattle.std.proofs.lemmas.List.Elements.{filter_map-append, All-head, All-tail}
use Rattle.std.proofs.Math.Seq.{take-append_seam}
use Rattle.list_core.specs.Members.{In}
use Rattle.list_core.proofs.Members.{In_left, In_right, In_more, In_map, In_from_map}
use Rattle.list_core.proofs.Moments.{each_take}
use Rattle.list_core.proofs.Passing.{In_filter_map, In_from_filter_map}
use Rattle.dc_talk.specs.declared.sent.Sent.{Sent}
use Rattle.dc_talk.specs.Sents.{with_hops}
use Rattle.dc_talk.specs.declared.ask.Ask.{Ask}
use Rattle.dc_talk.specs.declared.ask.Ask.TheVariants.{Hello, Refresh, Fetch, Delta, Commit, Send, Deliver, Relay, Report, Learn, Prune, Stop, Start}
use Rattle.dc_talk.specs.declared.say.Say.{Say}
use Rattle.dc_talk.specs.declared.say.Say.TheVariants.{Records, Vector}
use Rattle.dc_talk.specs.declared.log.Deed.{Deed}
use Rattle.dc_talk.specs.declared.log.Deed.TheVariants.{Did, Asked, Told, Spoilt}
use Rattle.dc_talk.specs.declared.log.Note.{Note}
use Rattle.dc_talk.specs.Entries.{Entry}
use Rattle.dc_talk.specs.Logs.{marked, exchanged_in, entry_for}
use Rattle.dc_talk.specs.Answers.{answer, History}
use Rattle.script_core.specs.Provenance.{HasAnswer as HasBrought, WasSent as WasBrought, Carries, CarriesAll}
use Rattle.run_book.specs.Setups.{Setup, settings_among}
use Rattle.run_book.specs.Happenings.{Happened, note_by, notes_by, entry_in, trail_in, trails_in, happening, GoesToOneOf, HasAnswer, WasSent, CarrierAllows, trails_after, CarrierDoes, IsCarrier, Happens, AreHistories, AreTogether}
use Rattle.run_book.proofs.Happenings.Entries.{note_made, trail_more, deeds_marked}
use Rattle.run_book.proofs.Happenings.More.{allows_as, together_more, carrier_then}
use Rattle.run_book.proofs.Happenings.Sending.{sent_before}

-- ---- deeds among what happened

-- the deed is that of something that happened
pub record IsDone (all : List Happened) (deed : Deed) : Type 0 where
  pub it : Happened
  pub there : In it all
  pub is : it.note.deed ≡ deed

-- each of the deeds happened
abbrev pub AreDone : List Deed → List Happened → Type 0
AreDone deeds all = (deed : Deed) → In deed deeds → IsDone all deed

-- the deeds that an actor noted happened
pub noted_done : (a : ℕ) (all : List Happened) → AreDone (map (λ (note : Note). note.deed) (notes_by a all)) all
noted_done a all deed there =
    let note = In_from_map (λ (note : Note). note.deed) (notes_by a all) deed there in
    let from = In_from_filter_map (note_by a) all note.0 note.1 in
    record { it = from.0; there = from.1; is = ap (λ (note : Note). note.deed) (note_made a from.0 note.0 from.2).1 ∙ sym note.2 }

-- those that it noted last at a section and step
pub last_done : (all : List Happened) (actor section step : ℕ) (deeds : List Deed) → AreDone deeds (all ++ happening actor (map (marked section step) deeds))
last_done all actor section step deeds deed there =
    let one : Happened = record { actor = actor; note = marked section step deed } in
    let mine : List Note = map (marked section step) deeds in
    record { it = one; there = In_right all (happening actor mine) one (In_map (λ (note : Note). record { actor = actor; note = note }) mine (marked section step deed) (In_map (marked section step) deeds deed there)); is = refl }

-- and so with one deed more
done_more : (before : List Deed) (all : List Happened) (one : Happened) → AreDone before all → AreDone (before ++ one.note.deed ∷ []) (all ++ one ∷ [])
done_more before all one done deed there = ⊎_elim
    (λ old. let was = done deed old in record { it = was.it; there = In_left all (one ∷ []) was.it was.there; is = was.is })
    (λ last. record { it = one; there = In_right all (one ∷ []) one (inl refl); is = sym last })
    (In_more before one.note.deed deed there)

-- what deeds that happened brought stands in the trail of the centre that answered
brought_there : (before : List Deed) (all : List Happened) (i : ℕ) (ask : Ask) (say : Say) → AreDone before all → HasBrought before i ask say → HasAnswer (trail_in i all) say
brought_there before all i ask say done has =
    let was = done has.deed has.there in
    let pair : Ask × Say = (ask, say) in
    let made : entry_in i was.it ≡ Some (entry_for was.it.actor pair) = ap (λ deed. option_map (entry_for was.it.actor) (exchanged_in i deed)) was.is ∙ ap (option_map (entry_for was.it.actor)) has.exchanged in
    record { entry = entry_for was.it.actor pair; there = In_filter_map (entry_in i) all was.it (entry_for was.it.actor pair) was.there made; says = refl }

-- ---- what a carrier may do

-- a record that deeds that happened brought was sent by its origin
pub sent_there : (n k : ℕ) (setup : Setup) (all : List Happened) → AreTogether n k setup all → (before : List Deed) → AreDone before all → (item : Sent) → WasBrought before item → WasSent (trails_in all) item
sent_there n k setup all t before done item is = sent_before all is.centre is.list item (brought_there before all is.centre is.ask (Records is.list) done is.answer) is.among

-- what carries no more than deeds that happened brought, a carrier may do
pub carries_allowed : (n k : ℕ) (setup : Setup) (all : List Happened) → AreTogether n k setup all → (before : List Deed) → AreDone before all → (deed : Deed) → Carries before deed → CarrierAllows (trails_in all) deed
carries_allowed n k setup all t before done (Asked i (Deliver item hops) fate) is = sent_there n k setup all t before done (with_hops item hops) is
carries_allowed n k setup all t before done (Asked i (Learn from news) fate) is = brought_there before all from Report (Vector news) done is
carries_allowed n k setup all t before done (Asked i (Send after most) fate) is = tt
carries_allowed n k setup all t before done (Asked i (Relay origin after most) fate) is = tt
carries_allowed n k setup all t before done (Asked i Report fate) is = tt
carries_allowed n k setup all t before done (Asked i Prune fate) is = tt
carries_allowed n k setup all t before done (Asked i Stop fate) is = tt
carries_allowed n k setup all t before done (Asked i Start fate) is = tt
carries_allowed n k setup all t before done (Asked i (Hello client need) fate) is = absurd is
carries_allowed n k setup all t before done (Asked i (Refresh client here) fate) is = absurd is
carries_allowed n k setup all t before done (Asked i (Fetch o here) fate) is = tt
carries_allowed n k setup all t before done (Asked i (Delta o from here) fate) is = absurd is
carries_allowed n k setup all t before done (Asked i (Commit tx) fate) is = absurd is
carries_allowed n k setup all t before done (Did call outcome) is = absurd is
carries_allowed n k setup all t before done (Told line) is = tt
carries_allowed n k setup all t before done (Spoilt from item why) is = tt

-- the trails of the front of what happened are histories
histories_front : (n k : ℕ) (setup : Setup) (all more : List Happened) → AreHistories n k setup (all ++ more) → AreHistories n k setup all
histories_front n k setup all more histories i low high =
    let front : take (length (trail_in i all)) (trail_in i (all ++ more)) ≡ trail_in i all = ap (take (length (trail_in i all))) (filter_map-append (entry_in i) all more) ∙ take-append_seam (trail_in i all) (trail_in i more) in
    subst (History (settings_among n k setup i)) front
    (each_take (λ before (e : Entry). e.say ≡ answer (settings_among n k setup i) before e.ask) (trail_in i (all ++ more)) (length (trail_in i all)) (histories i low high))

module _ (n k : ℕ) (setup : Setup) (actor : ℕ) (carrier : IsCarrier n setup.clients actor) where
  -- so one deed after another, where the trails with them are histories
  does_from : (notes : List Note) (all : List Happened) (before : List Deed) (trails : ℕ → List Entry) → ((i : ℕ) → trail_in i all ≡ trails i) → AreTogether n k setup all → AreDone before all → AreHistories n k setup (all ++ happening actor notes) → All (GoesToOneOf n) (map (λ (note : Note). note.deed) notes) → CarriesAll before (map (λ (note : Note). note.deed) notes) → CarrierDoes actor trails notes
  does_from [] all before trails same t done histories reach carries = tt
  does_from (note ∷ notes) all before trails same t done histories reach carries =
      let one : Happened = record { actor = actor; note = note } in
      let allowed : CarrierAllows (trails_in all) note.deed = carries_allowed n k setup all t before done note.deed carries.0 in
      let here : Happens n setup all one = record { reach = All-head (GoesToOneOf n) note.deed (map (λ (note : Note). note.deed) notes) reach; by = inr (record { carrier = carrier; allowed = allowed }) } in
      let longer : AreHistories n k setup ((all ++ one ∷ []) ++ happening actor notes) = subst (AreHistories n k setup) (sym (append_assoc all (one ∷ []) (happening actor notes))) histories in
      let now : AreTogether n k setup (all ++ one ∷ []) = together_more n k setup all one t (histories_front n k setup (all ++ one ∷ []) (happening actor notes) longer) here in (
        allows_as (trails_in all) trails same note.deed allowed,
        does_from notes (all ++ one ∷ []) (before ++ note.deed ∷ []) (trails_after actor note.deed trails)
            (λ i. trail_more i all one ∙ ap (λ es. es ++ cons_option (entry_in i one) []) (same i))
            now (done_more before all one done) longer (All-tail (GoesToOneOf n) note.deed (map (λ (note : Note). note.deed) notes) reach) carries.1,
      )

  -- what an actor carries, after deeds that happened, it does as a carrier
  pub carries_does : (all : List Happened) (before : List Deed) (notes : List Note) → AreTogether n k setup all → AreDone before all → AreHistories n k setup (all ++ happening actor notes) → All (GoesToOneOf n) (map (λ (note : Note). note.deed) notes) → CarriesAll before (map (λ (note : Note). note.deed) notes) → CarrierDoes actor (trails_in all) notes
  carries_does all before notes t done histories reach carries = does_from notes all before (trails_in all) (λ i. refl) t done histories reach carries

  -- so it happened together with the rest
  pub carries_then : (all : List Happened) (before : List Deed) (notes : List Note) → AreTogether n k setup all → AreDone before all → AreHistories n k setup (all ++ happening actor notes) → All (GoesToOneOf n) (map (λ (note : Note). note.deed) notes) → CarriesAll before (map (λ (note : Note). note.deed) notes) → AreTogether n k setup (all ++ happening actor notes)
  carries_then all before notes t done histories reach carries = carrier_then n k setup actor all notes carrier t histories reach (carries_does all before notes t done histories reach carries)

  -- deeds that carry what they brought themselves, and that it noted at a section and step, it does so
  pub deeds_do : (all : List Happened) (section step : ℕ) (deeds : List Deed) → AreTogether n k setup all → AreHistories n k setup (all ++ happening actor (map (marked section step) deeds)) → All (GoesToOneOf n) deeds → CarriesAll [] deeds → CarrierDoes actor (trails_in all) (map (marked section step) deeds)
  deeds_do all section step deeds t histories reach carries =
      let back = sym (deeds_marked section step deeds) in
      carries_does all [] (map (marked section step) deeds) t (λ deed there. absurd there) histories (subst (All (GoesToOneOf n)) back reach) (subst (CarriesAll []) back carries)
