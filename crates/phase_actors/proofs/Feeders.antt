-- Feeds of taps by their feeders, and the operator's steps with them.
use Rattle.std.proofs.Common.{◌≡◌, ◌≢◌, ◌≤◌, ◌<◌, ◌==◌, ⊎_elim, ℕ, zero, suc, ◌-◌, Bool, true, false, cond, List, [], ◌∷◌, map, length, get_or, Option, Some, None, refl, sym, ap, ◌∙◌, subst, arith}
use Rattle.std.specs.Prelude.{slice_get, slice_set}
use Rattle.std.proofs.lemmas.Bool.{cases_eq, eq-eqb, ne_eqb}
use Rattle.std.proofs.lemmas.Option.{slice_get_read}
use Rattle.std.specs.List.{AllZip}
use Rattle.std.proofs.lemmas.Slice.Zip.{AllZip-long}
use Rattle.list_core.proofs.Gets.{set_else, set_here}
use Rattle.ids_core.specs.declared.object.ObjectId.{ObjectId}
use Rattle.dc_talk.specs.declared.seen.Fed.{Fed}
use Rattle.dc_talk.specs.declared.line.Line.TheVariants as line
use Rattle.dc_talk.specs.declared.log.Deed.{Deed}
use Rattle.dc_talk.specs.declared.log.Deed.TheVariants.{Told}
use Rattle.dc_talk.specs.Logs.{Logged, noted}
use Rattle.dc_talk.specs.Acting.{Acting, acting}
use Rattle.script_core.specs.declared.taps.Show.{Show}
use Rattle.script_core.specs.declared.taps.TapState.{TapState}
use Rattle.script_core.specs.declared.taps.Found.{Found}
use Rattle.script_core.specs.declared.taps.Found.TheVariants.{Whole, Ended}
use Rattle.script_core.specs.declared.steps.OperatorStep.{OperatorStep}
use Rattle.script_core.specs.Feeds.{Finds, FeedDeeds, FeedGives, fed_of, show_in}
use Rattle.script_core.specs.Taps.{feed_in, FeedsAt}
use Rattle.dc_worker.specs.Feeds.{show_found}
use Rattle.dc_worker.specs.Work.{AddsSuch}
use Rattle.dc_worker.proofs.Feeding.{feeds_none, feeds_told}
use Rattle.dc_worker.proofs.Work.{adds_none}
use Rattle.client_stub.specs.Playing.{Operates}
use Rattle.run_table.specs.Taps.{taps_of}
use Rattle.run_table.proofs.Taps.{is_feed}
use Rattle.run_sections.specs.Taps.{shows_then, shows_fed}
use Rattle.read_tap.specs.Shows.{IsFront, FeederView}
use Rattle.read_tap.specs.Feeds.{IsShown, Feeds}
use Rattle.read_tap.proofs.Fronts.{front_same}
use Rattle.phase_actors.specs.Taps.{shows_kept, AreFeeders, HasFed, HaveFed, FeedsBy, FeedsAmong, TakesOrder}
use Rattle.phase_actors.proofs.Among.{front_then, zip_at, zip_same, zip_then, zip_set_at, among_there, among_same, among_grows}

-- ---- feeders

-- a feeder that fed nothing
pub feeder_same : (feeder : FeederView) → HasFed feeder feeder
feeder_same feeder = record { table = refl; objects = refl; front = front_same feeder.shows }

-- feeders that fed nothing
pub fed_same : (feeders : List FeederView) → HaveFed feeders feeders
fed_same feeders = zip_same HasFed feeder_same feeders

-- feeders that fed, and then fed more
pub fed_then : (first feeders later : List FeederView) → HaveFed first feeders → HaveFed feeders later → HaveFed first later
fed_then first feeders later one two = zip_then HasFed HasFed HasFed (λ a b c before behind. record {
  table = behind.table ∙ before.table;
  objects = behind.objects ∙ before.objects;
  front = front_then a.shows b.shows c.shows before.front behind.front;
}) first feeders later one two

-- they are feeders of the same taps still
pub feeders_stay : (n : ℕ) (taps : List TapState) (feeders later : List FeederView) → HaveFed feeders later → AreFeeders n taps feeders → AreFeeders n taps later
feeders_stay n taps feeders later fed are = record {
  each = λ place feeder there.
      let found = zip_at HasFed feeders later place feeder fed there in
      found.2.objects ∙ are.each place found.0 found.1;
  none = λ place past within. are.none place (omega (arith, past, AllZip-long HasFed feeders later fed)) within;
}

-- ---- one feed

-- how it ended by what its asks came to
fed_as : (found : Found) (fed : Fed) (old new : List Show) → IsShown old found fed new → fed ≡ fed_of found
fed_as (Whole show) fed old new shown = shown.0
fed_as (Ended end) fed old new shown = shown.0

-- the shows behind it
shows_as : (found : Found) (fed : Fed) (old new : List Show) → IsShown old found fed new → new ≡ shows_then (show_found found) old
shows_as (Whole show) fed old new shown = shown.1
shows_as (Ended end) fed old new shown = shown.1

-- those before it are a front of them
front_as : (found : Found) (fed : Fed) (old new : List Show) → IsShown old found fed new → IsFront old new
front_as (Whole show) fed old new shown = record { rest = show ∷ []; whole_is = shown.1 }
front_as (Ended end) fed old new shown = subst (IsFront old) (sym shown.1) (front_same old)

-- a tap without objects is not fed
pub fed_empty : (centre : ℕ) (feeder : FeederView) (objects : List ObjectId) (a : Acting) → objects ≡ feeder.objects → (length objects == 0) ≡ true → AddsSuch (FeedsBy centre feeder feeder) a a
fed_empty centre feeder objects a same none =
    let gives = feeds_none centre objects a none in
    record {
      deeds = gives.deeds;
      such = record {
        feeds = subst (λ (objects : List ObjectId). FeedDeeds centre objects gives.deeds) same gives.such.0;
        shows = sym (ap (λ (found : Option Show). shows_then found feeder.shows) gives.such.1);
        fed = feeder_same feeder;
      };
      adds = gives.adds;
    }

-- a tap that was fed, which the log tells
pub fed_told : (centre : ℕ) (objects : List ObjectId) (old new : FeederView) (fed : Fed) (a b : Acting) (later : Logged) → objects ≡ old.objects → (length objects == 0) ≡ false → new.table ≡ old.table → new.objects ≡ old.objects → AddsSuch (Feeds centre old.objects old.shows new.shows fed) a b → later ≡ noted b.log (Told (line.Feed centre fed)) → AddsSuch (FeedsBy centre old new) a (acting b.door later)
fed_told centre objects old new fed a b later same some table kept so log =
    let found : Found = so.such.found in
    let shown : IsShown old.shows found fed new.shows = so.such.shown in
    let finds : AddsSuch (Finds centre old.objects found) a b = record { deeds = so.deeds; such = so.such.finds; adds = so.adds } in
    let told : later ≡ noted b.log (Told (line.Feed centre (fed_of found))) = log ∙ ap (λ (fed : Fed). noted b.log (Told (line.Feed centre fed))) (fed_as found fed old.shows new.shows shown) in
    let many : (length old.objects == 0) ≡ false = subst (λ (objects : List ObjectId). (length objects == 0) ≡ false) same some in
    let gives : AddsSuch (FeedGives centre old.objects (show_found found)) a (acting b.door later) = feeds_told centre old.objects found a b later many finds told in
    record {
      deeds = gives.deeds;
      such = record {
        feeds = gives.such.0;
        shows = shows_as found fed old.shows new.shows shown ∙ ap (λ (found : Option Show). shows_then found old.shows) (sym gives.such.1);
        fed = record { table = table; objects = kept; front = front_as found fed old.shows new.shows shown };
      };
      adds = gives.adds;
    }

-- ---- among several

-- a choice between the same
either : (test : Bool) (shows : List Show) → cond test shows shows ≡ shows
either true shows = refl
either false shows = refl

-- the shows of all taps behind a feed of one
shows_among_fed : (taps : List TapState) (feeders : List FeederView) (place : ℕ) (feeder later : FeederView) (deeds : List Deed) → place < length feeders → slice_get feeders place ≡ Some feeder → later.shows ≡ shows_then (show_in deeds) feeder.shows → (other : ℕ) → shows_kept taps (slice_set feeders place later) other ≡ shows_fed (Some (suc place)) deeds (shows_kept taps feeders) other
shows_among_fed taps feeders place feeder later deeds within there grown zero =
    let apart : zero ≢ suc place = λ same. omega (arith, same) in
    sym (ap (λ test. cond test (shows_then (show_in deeds) (shows_kept taps feeders zero)) (shows_kept taps feeders zero)) (ne_eqb zero (suc place) apart))
shows_among_fed taps feeders place feeder later deeds within there grown (suc other) = ⊎_elim own another (cases_eq other place)
  where
    kept : FeederView → List Show
    kept feeder = feeder.shows

    fed : ℕ → Bool → List Show
    fed centre test = cond test (shows_then (show_in deeds) (shows_kept taps feeders centre)) (shows_kept taps feeders centre)

    own : other ≡ place → shows_kept taps (slice_set feeders place later) (suc other) ≡ shows_fed (Some (suc place)) deeds (shows_kept taps feeders) (suc other)
    own same =
        let here : shows_kept taps (slice_set feeders place later) (suc place) ≡ later.shows = among_there taps kept (slice_set feeders place later) place later (set_here feeders place later within) in
        let was : shows_kept taps feeders (suc place) ≡ feeder.shows = among_there taps kept feeders place feeder there in
        let now : shows_kept taps (slice_set feeders place later) (suc place) ≡ fed (suc place) true = here ∙ (grown ∙ ap (shows_then (show_in deeds)) (sym was)) in
        let test : true ≡ (suc place == suc place) = sym (eq-eqb (suc place) (suc place) refl) in
        subst (λ k. shows_kept taps (slice_set feeders place later) (suc k) ≡ fed (suc k) (suc k == suc place)) (sym same) (now ∙ ap (fed (suc place)) test)

    another : other ≢ place → shows_kept taps (slice_set feeders place later) (suc other) ≡ shows_fed (Some (suc place)) deeds (shows_kept taps feeders) (suc other)
    another differs =
        let apart : suc other ≢ suc place = λ same. differs (omega (arith, same)) in
        among_same taps kept feeders other (slice_set feeders place later) (set_else feeders place other later differs)
        ∙ sym (ap (fed (suc other)) (ne_eqb (suc other) (suc place) apart))

-- a feed by the feeder at a place
pub among_fed : (n : ℕ) (taps : List TapState) (feeders new : List FeederView) (centre : ℕ) (feeder later : FeederView) (a b : Acting) → 1 ≤ centre → centre - 1 < length feeders → feeder ≡ get_or feeders (centre - 1) feeder → new ≡ slice_set feeders (centre - 1) later → AreFeeders n taps feeders → AddsSuch (FeedsBy centre feeder later) a b → AddsSuch (FeedsAmong taps centre feeders new) a b
among_fed n taps feeders new centre feeder later a b low within found put are so =
    let there : slice_get feeders (centre - 1) ≡ Some feeder = slice_get_read feeders (length feeders) (centre - 1) feeder refl within found in
    let place : suc (centre - 1) ≡ centre = omega (arith, low) in
    let objects : feeder.objects ≡ (taps_of taps centre).objects = subst (λ k. feeder.objects ≡ (taps_of taps k).objects) place (are.each (centre - 1) feeder there) in
    record {
      deeds = so.deeds;
      such = record {
        feeds = subst (λ (objects : List ObjectId). FeedDeeds centre objects so.deeds) objects so.such.feeds;
        shows = λ other.
            ap (λ (feeders : List FeederView). shows_kept taps feeders other) put
            ∙ subst (λ k. shows_kept taps (slice_set feeders (centre - 1) later) other ≡ shows_fed (Some k) so.deeds (shows_kept taps feeders) other) place
            (shows_among_fed taps feeders (centre - 1) feeder later so.deeds within there so.such.shows other);
        fed = subst (HaveFed feeders) (sym put) (zip_set_at HasFed feeder_same feeders (centre - 1) feeder later there so.such.fed);
      };
      adds = so.adds;
    }

-- where there is no feeder there is nothing to feed
pub among_none : (n : ℕ) (taps : List TapState) (feeders : List FeederView) (centre : ℕ) (a : Acting) → 1 ≤ centre → centre ≤ n → length feeders ≤ centre - 1 → AreFeeders n taps feeders → AddsSuch (FeedsAmong taps centre feeders feeders) a a
among_none n taps feeders centre a low high past are =
    let place : suc (centre - 1) ≡ centre = omega (arith, low) in
    let none : (taps_of taps centre).objects ≡ [] = subst (λ k. (taps_of taps k).objects ≡ []) place (are.none (centre - 1) past (omega (arith, low, high))) in
    record {
      deeds = [];
      such = record {
        feeds = subst (λ (objects : List ObjectId). FeedDeeds centre objects []) (sym none) refl;
        shows = λ other. sym (either (other == centre) (shows_kept taps feeders other));
        fed = fed_same feeders;
      };
      adds = adds_none a;
    }

-- ---- steps

-- a feed takes the operator's step
pub order_feeds : (taps : List TapState) (n centre : ℕ) (step : OperatorStep) (feeders later : List FeederView) (a b : Acting) → Some centre ≡ feed_in step → AddsSuch (FeedsAmong taps centre feeders later) a b → TakesOrder taps n step feeders later a b
order_feeds taps n centre step feeders later a b is so =
    subst (λ step. TakesOrder taps n step feeders later a b) (sym (is_feed step centre is))
    (record {
      deeds = so.deeds;
      such = ((taps_of taps centre).objects, so.such.feeds);
      feeds = so.such.feeds;
      shows = so.such.shows;
      fed = so.such.fed;
      leaves = so.adds.leaves;
    })

-- a step that feeds nothing leaves the feeders
pub order_feeds_none : (taps : List TapState) (n : ℕ) (step : OperatorStep) (feeders : List FeederView) (a b : Acting) → None ≡ feed_in step → Operates n step a b → TakesOrder taps n step feeders feeders a b
order_feeds_none taps n step feeders a b none operates = record {
  deeds = operates.deeds;
  such = operates.such;
  feeds = subst (FeedsAt (taps_of taps) operates.deeds) none tt;
  shows = λ other. ap (λ fed. shows_fed fed operates.deeds (shows_kept taps feeders) other) none;
  fed = fed_same feeders;
  leaves = operates.leaves;
}

-- the shows that feeders keep grow
pub kept_grows : (taps : List TapState) (feeders later : List FeederView) → HaveFed feeders later → (centre : ℕ) → IsFront (shows_kept taps feeders centre) (shows_kept taps later centre)
kept_grows taps feeders later fed centre = among_grows (λ (feeder : FeederView). feeder.shows) (λ (feeder : FeederView). feeder.shows) taps feeders later (fronts feeders later fed) centre
  where
    fronts : (feeders later : List FeederView) → HaveFed feeders later → AllZip (λ (a b : FeederView). IsFront a.shows b.shows) feeders later
    fronts [] [] fed = tt
    fronts [] (b ∷ later) fed = absurd fed
    fronts (a ∷ feeders) [] fed = absurd fed
    fronts (a ∷ feeders) (b ∷ later) fed = (fed.0.front, fronts feeders later fed.1)
