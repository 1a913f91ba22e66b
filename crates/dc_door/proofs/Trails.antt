-- The trails of the centres, where one of them answers.
use Rattle.std.proofs.Common.{◌≡◌, ◌≢◌, ◌≤◌, ◌<◌, ℕ, zero, suc, ◌+◌, ◌^◌, true, List, [], ◌∷◌, ◌++◌, length, get_or, set, drop, Some, None, Result, Ok, Err, refl, sym, ap, ◌∙◌, subst, arith}
use Rattle.std.specs.Prelude.{IfOk, OnOk, OnErr, slice_get, All}
use Rattle.std.specs.Option.{option_map}
use Rattle.std.proofs.Math.Seq.{drop-length, map-set_same}
use Rattle.std.proofs.lemmas.List.{map-set, length-set, length-append, length-drop, drop-append-le}
use Rattle.std.proofs.lemmas.Option.{slice_get-map, slice_get_within, slice_get-get_or, get_or_from_slice_get}
use Rattle.ids_core.specs.declared.limits.TheConstants.{MOST_CENTRES}
use Rattle.vv_core.specs.Vectors.{at}
use Rattle.list_core.proofs.Gets.{set_here, set_else}
use Rattle.machine_trail.specs.History.{entry}
use Rattle.dc_talk.specs.declared.ask.Ask.{Ask}
use Rattle.dc_talk.specs.declared.say.Say.{Say}
use Rattle.dc_talk.specs.Entries.{Entry}
use Rattle.dc_talk.specs.Answers.{answer}
use Rattle.dc_talk.specs.Doors.{belongs, HasAsked}
use Rattle.dc_talk.proofs.Belonging.{answer_belongs}
use Rattle.dc_door.specs.Centres.{CentreTrail, KeptCentre, seen_of, all_seen, IsKeptCentre}
use Rattle.dc_door.specs.KeptDoors.{KeptView, entries_of, trail_at, settings_of, shown_of, lengths_of, IsKeptDoor, HasAnswered}

-- ---- how many entries there are

-- the length of a trail is the entry of its centre among the lengths
length_at : (centres : List CentreTrail) (i : ℕ) → at (lengths_of centres) i ≡ length (trail_at centres i)
length_at centres zero = refl
length_at [] (suc i) = refl
length_at (centre ∷ centres) (suc zero) = refl
length_at (centre ∷ centres) (suc (suc i)) = length_at centres (suc i)

-- where all entries were there before, nothing was made
pub none_made : (centres : List CentreTrail) (since : List ℕ) → since ≡ lengths_of centres → (i : ℕ) → drop (at since i) (trail_at centres i) ≡ []
none_made centres since all i = ap (λ count. drop count (trail_at centres i)) (ap (λ since. at since i) all ∙ length_at centres i) ∙ drop-length (trail_at centres i)

-- a door is as it may be there
pub is_begun : (kept : List KeptCentre) (since : List ℕ) → (1 ≤ length kept) × (length kept ≤ MOST_CENTRES) → All IsKeptCentre kept → since ≡ lengths_of (all_seen kept) → IsKeptDoor kept since
is_begun kept since number each all = record {
  number = number;
  all = each;
  before = λ i. let same : at since i ≡ length (trail_at (all_seen kept) i) = ap (λ since. at since i) all ∙ length_at (all_seen kept) i in omega arith;
}

-- ---- a trail by its number

-- the trail of a centre that was found
pub trail_found : (kept : List KeptCentre) (place centre : ℕ) (one : KeptCentre) → centre ≡ suc place → slice_get kept place ≡ Some one → one.trail.entries ≡ trail_at (all_seen kept) centre
trail_found kept place centre one is there = subst (λ i. one.trail.entries ≡ trail_at (all_seen kept) i) (sym is)
    (sym (ap entries_of (slice_get-map seen_of kept place ∙ ap (option_map seen_of) there)))

-- and no entries where there is no centre
pub trail_none : (kept : List KeptCentre) (place centre : ℕ) → centre ≡ suc place → slice_get kept place ≡ None → [] ≡ trail_at (all_seen kept) centre
trail_none kept place centre is none = subst (λ i. [] ≡ trail_at (all_seen kept) i) (sym is)
    (sym (ap entries_of (slice_get-map seen_of kept place ∙ ap (option_map seen_of) none)))

-- ---- one centre answers

-- a centre that answered as is defined has one entry more
pub has_answered : {E : Type 0} (kept : List KeptCentre) (place caller : ℕ) (ask : Ask) (one new : KeptCentre) (r : Result Say E) → place < length kept → one ≡ get_or kept place one
    → IfOk r (λ say. say ≡ answer (seen_of one).settings (seen_of one).entries ask)
    → IfOk r (λ say. seen_of new ≡ record (seen_of one) { entries = (seen_of one).entries ++ entry caller ask say ∷ [] })
    → OnOk r (length (seen_of one).entries + 1 < 2 ^ 62)
    → IfOk r (λ say. HasAnswered (all_seen kept) (all_seen (set kept place new)) place (entry caller ask say))
has_answered kept place caller ask one new (Ok say) within is said after short = record {
  centre = seen_of one;
  there = slice_get-map seen_of kept place ∙ ap (option_map seen_of) (slice_get-get_or kept place one within ∙ ap (λ (x : KeptCentre). Some x) (sym is));
  say = said;
  after = map-set seen_of kept place new ∙ ap (set (all_seen kept) place) after;
  short = short;
}
has_answered kept place caller ask one new (Err e) within is said after short = tt

-- where it did not answer, all is as it was
pub has_not_answered : {E : Type 0} (kept : List KeptCentre) (place : ℕ) (one new : KeptCentre) (r : Result Say E) → one ≡ get_or kept place one → OnErr r (seen_of new ≡ seen_of one) → OnErr r (all_seen (set kept place new) ≡ all_seen kept)
has_not_answered kept place one new (Ok say) is same = tt
has_not_answered kept place one new (Err e) is same = map-set_same seen_of kept place new one (same ∙ ap seen_of is)

-- ---- a door after an ask

module _ (old new : List CentreTrail) (place : ℕ) (entry : Entry) (has : HasAnswered old new place entry) where
  -- what the trail of the centre that answers was before
  trail_was : trail_at old (suc place) ≡ has.centre.entries
  trail_was = ap entries_of has.there

  -- it ends with the entry now
  trail_here : trail_at new (suc place) ≡ trail_at old (suc place) ++ entry ∷ []
  trail_here =
      let more : CentreTrail = record has.centre { entries = has.centre.entries ++ entry ∷ [] } in
      ap entries_of (ap (λ centres. slice_get centres place) has.after ∙ set_here old place more (slice_get_within old place has.centre has.there))
      ∙ ap (λ entries. entries ++ entry ∷ []) (sym trail_was)

  -- the other trails stay
  trail_else : (j : ℕ) → j ≢ suc place → trail_at new j ≡ trail_at old j
  trail_else zero differs = refl
  trail_else (suc other) differs =
      let more : CentreTrail = record has.centre { entries = has.centre.entries ++ entry ∷ [] } in
      ap entries_of (ap (λ centres. slice_get centres other) has.after ∙ set_else old place other more (λ same. differs (ap suc same)))

  -- so do the settings
  settings_stay : settings_of new ≡ settings_of old
  settings_stay =
      let more : CentreTrail = record has.centre { entries = has.centre.entries ++ entry ∷ [] } in
      ap settings_of has.after
      ∙ map-set_same (λ (centre : CentreTrail). centre.settings) old place more has.centre (ap (λ (centre : CentreTrail). centre.settings) (sym (get_or_from_slice_get old place has.centre has.centre has.there)))

  -- and the number of centres
  number_stays : length new ≡ length old
  number_stays = ap length has.after ∙ length-set old place (record has.centre { entries = has.centre.entries ++ entry ∷ [] })

-- a door of which one centre answered has been asked
door_asked : (old new : KeptView) (place i : ℕ) (e : Entry) → i ≡ suc place → new.actor ≡ old.actor → new.since ≡ old.since → at old.since i ≤ length (trail_at old.centres i) → HasAnswered old.centres new.centres place e → HasAsked (shown_of old) (shown_of new) i e
door_asked old new place i e is actor since before has = subst (λ (k : ℕ). at old.since k ≤ length (trail_at old.centres k) → HasAsked (shown_of old) (shown_of new) k e) (sym is) go before
  where
    go : at old.since (suc place) ≤ length (trail_at old.centres (suc place)) → HasAsked (shown_of old) (shown_of new) (suc place) e
    go before =
        let here : trail_at new.centres (suc place) ≡ trail_at old.centres (suc place) ++ e ∷ [] = trail_here old.centres new.centres place e has in
        let there : (j : ℕ) → j ≢ suc place → trail_at new.centres j ≡ trail_at old.centres j = trail_else old.centres new.centres place e has in
        let long : length (trail_at new.centres (suc place)) ≡ length has.centre.entries + 1 = ap length here ∙ (length-append (trail_at old.centres (suc place)) (e ∷ []) ∙ ap (λ entries. length entries + 1) (trail_was old.centres new.centres place e has)) in
        let short : length (trail_at new.centres (suc place)) < 2 ^ 62 = omega (arith, has.short) in
        let from : ℕ = at new.since (suc place) in
        record {
          same = record { actor = actor; centres = number_stays old.centres new.centres place e has; alone = refl };
          made = ap (λ since. drop (at since (suc place)) (trail_at new.centres (suc place))) since ∙ (ap (drop (at old.since (suc place))) here ∙ drop-append-le (at old.since (suc place)) (trail_at old.centres (suc place)) (e ∷ []) before);
          between = [];
          seen = here;
          alone = λ _. refl;
          other_made = λ j differs. ap (λ since. drop (at since j) (trail_at new.centres j)) since ∙ ap (drop (at old.since j)) (there j differs);
          other_seen = there;
          short = (omega (arith, length-drop from (trail_at new.centres (suc place))), short);
        }

-- ---- as an ask ends

module _ {E : Type 0} where
  -- the settings stay, also where no centre answered
  pub place_stays : (old new : List CentreTrail) (place caller : ℕ) (ask : Ask) (r : Result Say E) → IfOk r (λ say. HasAnswered old new place (entry caller ask say)) → OnErr r (new ≡ old) → settings_of new ≡ settings_of old
  place_stays old new place caller ask (Ok say) has same = settings_stay old new place (entry caller ask say) has
  place_stays old new place caller ask (Err e) has same = ap settings_of same

  -- the answer belongs to the ask
  pub says_its_row : (old new : List CentreTrail) (place caller : ℕ) (ask : Ask) (r : Result Say E) → IfOk r (λ say. HasAnswered old new place (entry caller ask say)) → IfOk r (λ say. belongs ask say ≡ true)
  says_its_row old new place caller ask (Ok say) has = subst (λ (say : Say). belongs ask say ≡ true) (sym has.say) (answer_belongs has.centre.settings has.centre.entries ask)
  says_its_row old new place caller ask (Err e) has = tt

  -- the door has been asked
  pub has_asked : (old new : KeptView) (place i : ℕ) (ask : Ask) (r : Result Say E) → i ≡ suc place → new.actor ≡ old.actor → new.since ≡ old.since → at old.since i ≤ length (trail_at old.centres i) → IfOk r (λ say. HasAnswered old.centres new.centres place (entry old.actor ask say)) → IfOk r (λ say. HasAsked (shown_of old) (shown_of new) i (entry old.actor ask say))
  has_asked old new place i ask (Ok say) is actor since before has = door_asked old new place i (entry old.actor ask say) is actor since before has
  has_asked old new place i ask (Err e) is actor since before has = tt
