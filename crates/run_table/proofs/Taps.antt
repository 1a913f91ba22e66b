-- The taps of a table by their centres, and steps that feed them.
use Rattle.std.proofs.Common.{◌≡◌, ◌≢◌, ◌≤◌, ◌<◌, ⊎_elim, ℕ, zero, suc, ◌-◌, ◌==◌, Bool, true, false, cond, List, [], length, get_or, Option, Some, None, refl, sym, ap, ◌∙◌, subst, arith}
use Rattle.std.specs.Prelude.{slice_get, slice_set}
use Rattle.std.proofs.lemmas.Bool.{cases_eq, eq-eqb, ne_eqb}
use Rattle.std.proofs.lemmas.Option.{none-some, same_Some, get_or_from_slice_get, slice_get_read}
use Rattle.std.proofs.lemmas.List.{get_or-set_same, get_or-set_other, get_or_past, set-get_or}
use Rattle.ids_core.specs.declared.object.ObjectId.{ObjectId}
use Rattle.dc_talk.specs.declared.log.Deed.{Deed}
use Rattle.dc_talk.specs.Acting.{Acting}
use Rattle.script_core.specs.declared.taps.Show.{Show}
use Rattle.script_core.specs.declared.taps.TapState.{TapState}
use Rattle.script_core.specs.declared.steps.OperatorStep.{OperatorStep}
use Rattle.script_core.specs.declared.steps.OperatorStep.TheVariants.{Feed}
use Rattle.script_core.specs.Steps.{IsCount, IsOperatorStep}
use Rattle.script_core.specs.Feeds.{FeedDeeds, FeedGives, show_in}
use Rattle.script_core.specs.Taps.{fed_tap, feed_in, FeedsAt, taps_fed}
use Rattle.dc_worker.specs.Work.{AddsSuch}
use Rattle.dc_worker.proofs.Work.{adds_none}
use Rattle.client_stub.specs.Playing.{Operates}
use Rattle.run_table.specs.Taps.{no_tap, taps_of, FeedsTap, FeedsOne, OperatesWith}

-- ---- by centres

-- the tap that was found at a place
pub tap_found : (taps : List TapState) (centre : ℕ) (tap : TapState) → 1 ≤ centre → slice_get taps (centre - 1) ≡ Some tap → taps_of taps centre ≡ tap
tap_found taps zero tap low there = absurd (omega (arith, low))
tap_found taps (suc place) tap low there =
    let same : suc place - 1 ≡ place = omega arith in
    get_or_from_slice_get taps place tap no_tap (subst (λ k. slice_get taps k ≡ Some tap) same there)

-- a centre for which there is none has one without objects
pub tap_past : (taps : List TapState) (centre : ℕ) → length taps ≤ centre - 1 → taps_of taps centre ≡ no_tap
tap_past taps zero past = refl
tap_past taps (suc place) past = get_or_past taps place no_tap (omega (arith, past))

-- a tap that was put in place of a centre's
tap_here : (taps : List TapState) (centre : ℕ) (tap : TapState) → 1 ≤ centre → centre - 1 < length taps → taps_of (slice_set taps (centre - 1) tap) centre ≡ tap
tap_here taps zero tap low high = absurd (omega (arith, low))
tap_here taps (suc place) tap low high =
    let same : place ≡ suc place - 1 = omega arith in
    subst (λ k. taps_of (slice_set taps k tap) (suc place) ≡ tap) same (get_or-set_same taps place tap no_tap (omega (arith, high)))

-- the taps of the others then
tap_else : (taps : List TapState) (centre other : ℕ) (tap : TapState) → 1 ≤ centre → other ≢ centre → taps_of (slice_set taps (centre - 1) tap) other ≡ taps_of taps other
tap_else taps centre zero tap low differs = refl
tap_else taps centre (suc place) tap low differs = get_or-set_other taps (centre - 1) place tap no_tap (λ same. differs (omega (arith, same, low)))

-- ---- feeds

-- a feed of the tap at a place
fed_here : (taps new : List TapState) (fed : ℕ) (tap later : TapState) (deeds : List Deed) → 1 ≤ fed → fed - 1 < length taps → tap ≡ get_or taps (fed - 1) tap → new ≡ slice_set taps (fed - 1) later → FeedsTap fed tap later deeds → FeedsOne fed taps new deeds
fed_here taps new fed tap later deeds low high found put feeds =
    let here : taps_of taps fed ≡ tap = tap_found taps fed tap low (slice_get_read taps (length taps) (fed - 1) tap refl high found) in
    record {
      feeds = subst (λ (tap : TapState). FeedDeeds fed tap.objects deeds) (sym here) feeds.feeds;
      later = λ centre. ap (λ taps. taps_of taps centre) put ∙ ⊎_elim (own here centre) (other centre) (cases_eq centre fed);
    }
  where
    own : taps_of taps fed ≡ tap → (centre : ℕ) → centre ≡ fed → taps_of (slice_set taps (fed - 1) later) centre ≡ taps_fed (Some fed) deeds (taps_of taps) centre
    own here centre same =
        subst (λ centre. taps_of (slice_set taps (fed - 1) later) centre ≡ taps_fed (Some fed) deeds (taps_of taps) centre) (sym same)
        (tap_here taps fed later low high
        ∙ (feeds.later
        ∙ (ap (fed_tap (show_in deeds)) (sym here)
        ∙ sym (ap (λ test. cond test (fed_tap (show_in deeds) (taps_of taps fed)) (taps_of taps fed)) (eq-eqb fed fed refl)))))

    other : (centre : ℕ) → centre ≢ fed → taps_of (slice_set taps (fed - 1) later) centre ≡ taps_fed (Some fed) deeds (taps_of taps) centre
    other centre differs =
        tap_else taps fed centre later low differs
        ∙ sym (ap (λ test. cond test (fed_tap (show_in deeds) (taps_of taps centre)) (taps_of taps centre)) (ne_eqb centre fed differs))

-- a feed of a tap, by what it found
pub tap_fed : (centre : ℕ) (old : TapState) (objects : List ObjectId) (found : Option Show) (a b : Acting) → objects ≡ old.objects → AddsSuch (FeedGives centre objects found) a b → AddsSuch (FeedsTap centre old (fed_tap found old)) a b
tap_fed centre old objects found a b same gives = record {
  deeds = gives.deeds;
  such = record {
    feeds = subst (λ objects. FeedDeeds centre objects gives.deeds) same gives.such.0;
    later = ap (λ found. fed_tap found old) (sym gives.such.1);
  };
  adds = gives.adds;
}

-- the same of the tap at a place
pub one_fed : (taps new : List TapState) (fed : ℕ) (tap later : TapState) (a b : Acting) → 1 ≤ fed → fed - 1 < length taps → tap ≡ get_or taps (fed - 1) tap → new ≡ slice_set taps (fed - 1) later → AddsSuch (FeedsTap fed tap later) a b → AddsSuch (FeedsOne fed taps new) a b
one_fed taps new fed tap later a b low high found put feeds = record { deeds = feeds.deeds; such = fed_here taps new fed tap later feeds.deeds low high found put feeds.such; adds = feeds.adds }

-- where there is no such tap nothing is fed
pub fed_none : (taps : List TapState) (fed : ℕ) (a : Acting) → length taps ≤ fed - 1 → AddsSuch (FeedsOne fed taps taps) a a
fed_none taps fed a past = record {
  deeds = [];
  such = record {
    feeds = subst (λ (tap : TapState). FeedDeeds fed tap.objects []) (sym (tap_past taps fed past)) refl;
    later = λ centre. sym (either (centre == fed) (taps_of taps centre));
  };
  adds = adds_none a;
}
  where
    either : (test : Bool) (tap : TapState) → cond test tap tap ≡ tap
    either true tap = refl
    either false tap = refl

-- a tap that was put back as it was
pub put_back : (taps new : List TapState) (place : ℕ) (tap later : TapState) → tap ≡ get_or taps place tap → later ≡ tap → new ≡ slice_set taps place later → new ≡ taps
put_back taps new place tap later found same put =
    put ∙ (ap (slice_set taps place) (same ∙ found) ∙ set-get_or taps place tap)

-- ---- steps

-- a step that feeds the tap of a centre
pub is_feed : (step : OperatorStep) (centre : ℕ) → Some centre ≡ feed_in step → step ≡ Feed centre
is_feed (Feed other) centre is = ap Feed (same_Some other centre (sym is))
is_feed _ centre is = absurd (none-some centre (sym is))

-- a step that feeds has one of the centres
pub feed_within : (n centre : ℕ) (step : OperatorStep) → Some centre ≡ feed_in step → IsOperatorStep n step → IsCount n centre
feed_within n centre step is fits = subst (IsOperatorStep n) (is_feed step centre is) fits

-- it takes the operator's step
pub order_fed : (n centre : ℕ) (step : OperatorStep) (old new : List TapState) (a b : Acting) → Some centre ≡ feed_in step → AddsSuch (FeedsOne centre old new) a b → OperatesWith n step old new a b
order_fed n centre step old new a b is feeds =
    subst (λ step. OperatesWith n step old new a b) (sym (is_feed step centre is))
    (record {
      operates = record { deeds = feeds.deeds; such = ((taps_of old centre).objects, feeds.such.feeds); leaves = feeds.adds.leaves };
      feeds = feeds.such.feeds;
      behind = feeds.such.later;
    })

-- a step that feeds none leaves the taps
pub order_other : (n : ℕ) (step : OperatorStep) (taps new : List TapState) (a b : Acting) → None ≡ feed_in step → new ≡ taps → Operates n step a b → OperatesWith n step taps new a b
order_other n step taps new a b none same operates = record {
  operates = operates;
  feeds = subst (FeedsAt (taps_of taps) operates.deeds) none tt;
  behind = λ centre. ap (λ taps. taps_of taps centre) same ∙ ap (λ fed. taps_fed fed operates.deeds (taps_of taps) centre) none;
}
