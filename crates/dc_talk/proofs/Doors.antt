-- What deeds leave at a door, one after another.
use Rattle.std.proofs.Common.{◌≡◌, ◌<◌, ℕ, length, length-append, arith, ⊎_elim, Bool, true, false, cond, List, [], ◌∷◌, ◌++◌, Option, Some, None, refl, sym, ap, ◌∙◌, subst}
use Rattle.std.specs.Prelude.{◌==◌}
use Rattle.std.specs.Option.{option_map}
use Rattle.std.specs.List.{filter_map}
use Rattle.std.proofs.lemmas.Bool.{eqb-true, eq-eqb, false≢true}
use Rattle.std.proofs.lemmas.List.{append-nil, append_assoc}
use Rattle.std.proofs.lemmas.List.Elements.{filter_map-append}
use Rattle.list_core.specs.Members.{In}
use Rattle.list_core.proofs.Members.{In_left, In_right, In_either}
use Rattle.dc_talk.specs.declared.ask.Ask.{Ask}
use Rattle.dc_talk.specs.declared.say.Say.{Say}
use Rattle.dc_talk.specs.declared.log.Fate.{Fate}
use Rattle.dc_talk.specs.declared.log.Fate.TheVariants.{AskLost}
use Rattle.dc_talk.specs.declared.log.Deed.{Deed}
use Rattle.dc_talk.specs.declared.log.Deed.TheVariants.{Asked}
use Rattle.dc_talk.specs.Entries.{Entry}
use Rattle.dc_talk.specs.Logs.{answered, exchanged_in, entry_for, entry_made, entries_made}
use Rattle.dc_talk.specs.Doors.{DoorView, IsSameDoor, HasAsked, HasNotAsked, HasDone, MayHaveAsked}

-- ---- the same door

-- a door is the same as itself
pub same_self : (a : DoorView) → IsSameDoor a a
same_self a = record { actor = refl; centres = refl; alone = refl }

-- a door that is the same as one that is the same
pub same_then : (a b c : DoorView) → IsSameDoor a b → IsSameDoor b c → IsSameDoor a c
same_then a b c first more = record { actor = more.actor ∙ first.actor; centres = more.centres ∙ first.centres; alone = more.alone ∙ first.alone }

-- ---- what deeds made

-- a deed that exchanged nothing with a centre made no entry there
made_none : (actor i : ℕ) (deed : Deed) → exchanged_in i deed ≡ None → entries_made actor i (deed ∷ []) ≡ []
made_none actor i deed none = subst (λ o. filter_map (λ (x : Option (Ask × Say)). option_map (entry_for actor) x) (o ∷ []) ≡ []) (sym none) refl

-- a deed that reached another centre made none
pub made_other : (actor i j : ℕ) (ask : Ask) (fate : Fate) → (i == j) ≡ false → entries_made actor j (Asked i ask fate ∷ []) ≡ []
made_other actor i j ask fate other = made_none actor j (Asked i ask fate) (ap (λ test. cond test (option_map (λ say. (ask, say)) (answered fate)) None) other)

-- one that reached the centre made its entry
pub made_one : (actor i j : ℕ) (ask : Ask) (fate : Fate) (say : Say) → (i == j) ≡ true → answered fate ≡ Some say → entries_made actor j (Asked i ask fate ∷ []) ≡ entry_for actor (ask, say) ∷ []
made_one actor i j ask fate say here got =
    let exchanged : exchanged_in j (Asked i ask fate) ≡ Some (ask, say) = ap (λ test. cond test (option_map (λ say. (ask, say)) (answered fate)) None) here ∙ ap (option_map (λ say. (ask, say))) got in
    subst (λ o. filter_map (λ (x : Option (Ask × Say)). option_map (entry_for actor) x) (o ∷ []) ≡ entry_for actor (ask, say) ∷ []) (sym exchanged) refl

-- more deeds made more entries
pub made_then : (actor i : ℕ) (ds es : List Deed) → entries_made actor i (ds ++ es) ≡ entries_made actor i ds ++ entries_made actor i es
made_then actor i ds es = filter_map-append (entry_made actor i) ds es

-- ---- deeds

-- no deeds
pub done_none : (a : DoorView) → HasDone a a []
done_none a = record {
  same = same_self a;
  made = λ i. sym (append-nil (a.made i));
  more = λ i. [];
  seen = λ i. sym (append-nil (a.seen i));
  there = λ i entry is. is;
  alone = λ only i. refl;
}

-- one deed that exchanged nothing with any centre
pub done_quiet : (a : DoorView) (deed : Deed) → ((i : ℕ) → exchanged_in i deed ≡ None) → HasDone a a (deed ∷ [])
done_quiet a deed quiet = record {
  same = same_self a;
  made = λ i. sym (ap (λ es. a.made i ++ es) (made_none a.actor i deed (quiet i)) ∙ append-nil (a.made i));
  more = λ i. [];
  seen = λ i. sym (append-nil (a.seen i));
  there = λ i entry is. subst (In entry) (made_none a.actor i deed (quiet i)) is;
  alone = λ only i. sym (made_none a.actor i deed (quiet i));
}

-- one ask that was lost
pub done_lost : (a : DoorView) (i : ℕ) (ask : Ask) → HasDone a a (Asked i ask AskLost ∷ [])
done_lost a i ask = done_quiet a (Asked i ask AskLost) (λ j. either (i == j))
  where
    either : (test : Bool) → cond test (option_map {U = Ask × Say} (λ say. (ask, say)) (answered AskLost)) None ≡ None
    either true = refl
    either false = refl

-- what a door knows of each centre behind what it knew, once it asked centre i
abbrev known_more : ℕ → List Entry → ℕ → List Entry
known_more i entries j = cond (i == j) entries []

-- that is all that it knows more
seen_more : (a b : DoorView) (i : ℕ) (entry : Entry) (asked : HasAsked a b i entry) (j : ℕ) → b.seen j ≡ a.seen j ++ known_more i (asked.between ++ entry ∷ []) j
seen_more a b i entry asked j = by_test (i == j) refl
  where
    by_test : (test : Bool) → (i == j) ≡ test → b.seen j ≡ a.seen j ++ cond test (asked.between ++ entry ∷ []) []
    by_test true here = subst (λ k. b.seen k ≡ a.seen k ++ (asked.between ++ entry ∷ [])) (eqb-true i j here) asked.seen
    by_test false other = asked.other_seen j (λ same. false≢true (sym other ∙ eq-eqb i j (sym same))) ∙ sym (append-nil (a.seen j))

-- one ask that reached its centre
pub done_ask : (a b : DoorView) (i : ℕ) (ask : Ask) (fate : Fate) (say : Say) → answered fate ≡ Some say → HasAsked a b i (entry_for a.actor (ask, say)) → HasDone a b (Asked i ask fate ∷ [])
done_ask a b i ask fate say got asked = record {
  same = asked.same;
  made = λ j. made j (i == j) refl;
  more = known_more i (asked.between ++ one ∷ []);
  seen = seen_more a b i (entry_for a.actor (ask, say)) asked;
  there = λ j entry is. there j entry (i == j) refl is;
  alone = λ only j. alone only j (i == j) refl;
}
  where
    one : Entry
    one = entry_for a.actor (ask, say)

    reached : (j : ℕ) → (i == j) ≡ true → entries_made a.actor j (Asked i ask fate ∷ []) ≡ one ∷ []
    reached j here = made_one a.actor i j ask fate say here got

    missed : (j : ℕ) → (i == j) ≡ false → entries_made a.actor j (Asked i ask fate ∷ []) ≡ []
    missed j other = made_other a.actor i j ask fate other

    made : (j : ℕ) (test : Bool) → (i == j) ≡ test → b.made j ≡ a.made j ++ entries_made a.actor j (Asked i ask fate ∷ [])
    made j true here = subst (λ k. b.made k ≡ a.made k ++ one ∷ []) (eqb-true i j here) asked.made ∙ ap (λ es. a.made j ++ es) (sym (reached j here))
    made j false other = asked.other_made j (λ same. false≢true (sym other ∙ eq-eqb i j (sym same))) ∙ (sym (append-nil (a.made j)) ∙ ap (λ es. a.made j ++ es) (sym (missed j other)))

    there : (j : ℕ) (entry : Entry) (test : Bool) → (i == j) ≡ test → In entry (entries_made a.actor j (Asked i ask fate ∷ [])) → In entry (cond test (asked.between ++ one ∷ []) [])
    there j entry true here is = In_right asked.between (one ∷ []) entry (subst (In entry) (reached j here) is)
    there j entry false other is = subst (In entry) (missed j other) is

    alone : a.alone ≡ true → (j : ℕ) (test : Bool) → (i == j) ≡ test → cond test (asked.between ++ one ∷ []) [] ≡ entries_made a.actor j (Asked i ask fate ∷ [])
    alone only j true here = ap (λ es. es ++ one ∷ []) (asked.alone only) ∙ sym (reached j here)
    alone only j false other = sym (missed j other)

-- deeds after deeds
pub done_then : (a b c : DoorView) (ds es : List Deed) → HasDone a b ds → HasDone b c es → HasDone a c (ds ++ es)
done_then a b c ds es first later = record {
  same = same_then a b c first.same later.same;
  made = λ i. later.made i ∙ (ap (λ front. front ++ entries_made b.actor i es) (first.made i) ∙ (append_assoc (a.made i) (entries_made a.actor i ds) (entries_made b.actor i es) ∙ ap (λ more. a.made i ++ more) (joined i)));
  more = λ i. first.more i ++ later.more i;
  seen = λ i. later.seen i ∙ (ap (λ front. front ++ later.more i) (first.seen i) ∙ append_assoc (a.seen i) (first.more i) (later.more i));
  there = λ i entry is. ⊎_elim
      (λ early. In_left (first.more i) (later.more i) entry (first.there i entry early))
      (λ late. In_right (first.more i) (later.more i) entry (later.there i entry late))
      (In_either (entries_made a.actor i ds) (entries_made b.actor i es) entry (subst (In entry) (sym (joined i)) is));
  alone = λ only i. ap (λ front. front ++ later.more i) (first.alone only i) ∙ (ap (λ more. entries_made a.actor i ds ++ more) (later.alone (first.same.alone ∙ only) i) ∙ joined i);
}
  where
    joined : (i : ℕ) → entries_made a.actor i ds ++ entries_made b.actor i es ≡ entries_made a.actor i (ds ++ es)
    joined i = ap (λ actor. entries_made a.actor i ds ++ entries_made actor i es) first.same.actor ∙ sym (made_then a.actor i ds es)

-- an ask that reached its centre made the list of it longer
pub done_longer : (a b : DoorView) (i : ℕ) (ask : Ask) (fate : Fate) (say : Say) (ds : List Deed) → answered fate ≡ Some say → HasDone a b (Asked i ask fate ∷ ds) → length (a.made i) < length (b.made i)
done_longer a b i ask fate say ds got done =
    let one : entries_made a.actor i (Asked i ask fate ∷ []) ≡ entry_for a.actor (ask, say) ∷ [] = made_one a.actor i i ask fate say (eq-eqb i i refl) got in
    let made : b.made i ≡ a.made i ++ entry_for a.actor (ask, say) ∷ entries_made a.actor i ds = done.made i ∙ ap (λ es. a.made i ++ es) (made_then a.actor i (Asked i ask fate ∷ []) ds ∙ ap (λ es. es ++ entries_made a.actor i ds) one) in
    omega (arith, ap length made ∙ length-append (a.made i) (entry_for a.actor (ask, say) ∷ entries_made a.actor i ds))

-- ---- doors that may have been asked

-- a door of which nothing is asked
pub may_none : (a : DoorView) → MayHaveAsked a a
may_none a = record { same = same_self a; more = λ i. []; seen = λ i. sym (append-nil (a.seen i)) }

-- a door after an ask that was not made
pub may_not : (a b : DoorView) → HasNotAsked a b → MayHaveAsked a b
may_not a b not = record { same = not.same; more = λ i. []; seen = λ i. not.seen i ∙ sym (append-nil (a.seen i)) }

-- a door that was asked once
pub may_asked : (a b : DoorView) (i : ℕ) (entry : Entry) → HasAsked a b i entry → MayHaveAsked a b
may_asked a b i entry asked = record { same = asked.same; more = known_more i (asked.between ++ entry ∷ []); seen = seen_more a b i entry asked }

-- a door after deeds
pub may_done : (a b : DoorView) (ds : List Deed) → HasDone a b ds → MayHaveAsked a b
may_done a b ds done = record { same = done.same; more = done.more; seen = done.seen }

-- one after another
pub may_then : (a b c : DoorView) → MayHaveAsked a b → MayHaveAsked b c → MayHaveAsked a c
may_then a b c first later = record {
  same = same_then a b c first.same later.same;
  more = λ i. first.more i ++ later.more i;
  seen = λ i. later.seen i ∙ (ap (λ front. front ++ later.more i) (first.seen i) ∙ append_assoc (a.seen i) (first.more i) (later.more i));
}
