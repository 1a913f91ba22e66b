-- What each deed of a feed has in common.
use Rattle.std.proofs.Common.{ℕ, List, [], ◌∷◌, sym, subst}
use Rattle.std.specs.Prelude.{All}
use Rattle.std.proofs.lemmas.List.Elements.{All-nil, All-cons, All-append}
use Rattle.ids_core.specs.declared.object.ObjectId.{ObjectId}
use Rattle.tx_core.specs.declared.state.State.{State}
use Rattle.dc_talk.specs.declared.ask.Ask.TheVariants.{Prune}
use Rattle.dc_talk.specs.declared.say.Say.{Say}
use Rattle.dc_talk.specs.declared.say.Say.TheVariants as said
use Rattle.dc_talk.specs.declared.log.Fate.TheVariants.{Unheard}
use Rattle.dc_talk.specs.declared.log.Deed.{Deed}
use Rattle.dc_talk.specs.declared.log.Deed.TheVariants.{Asked, Told}
use Rattle.dc_talk.specs.declared.line.Line.TheVariants as line
use Rattle.dc_talk.specs.declared.seen.Fed.{Fed}
use Rattle.script_core.specs.declared.taps.Found.{Found}
use Rattle.script_core.specs.declared.taps.Found.TheVariants.{Whole, Ended}
use Rattle.script_core.specs.Feeds.{fetch_of, fetches_of, FetchesAll, Fetches, AfterPrune, Finds, fed_of, FeedDeeds}

module _ (P : Deed → Type 0) (centre : ℕ) (prunes : (say : Say) → P (Asked centre Prune (Unheard say))) (fetches : (vector : List ℕ) (object : ObjectId) (say : Say) → P (fetch_of centre vector object say)) (tells : (fed : Fed) → P (Told (line.Feed centre fed))) where
  -- what each fetch has, all have
  fetches_each : (vector : List ℕ) (objects : List ObjectId) (states : List State) → All P (fetches_of centre vector objects states)
  fetches_each vector [] states = All-nil P
  fetches_each vector (object ∷ objects) [] = All-nil P
  fetches_each vector (object ∷ objects) (state ∷ states) = All-cons P (fetch_of centre vector object (said.Object state)) (fetches_of centre vector objects states) (fetches vector object (said.Object state)) (fetches_each vector objects states)

  all_each : (vector : List ℕ) (objects : List ObjectId) (states : List State) (deeds : List Deed) → FetchesAll centre vector objects states deeds → All P deeds
  all_each vector objects states deeds is = subst (All P) (sym is.deeds_are) (fetches_each vector objects states)

  -- so have those behind a prune
  behind_each : (vector : List ℕ) (objects : List ObjectId) (found : Found) (deeds : List Deed) → Fetches centre vector objects found deeds → All P deeds
  behind_each vector objects (Whole show) deeds is = all_each vector objects show.states deeds is.1
  behind_each vector objects (Ended fed) deeds is = subst (All P) (sym is.deeds_are) (All-append P is.first (fetch_of centre vector is.object is.answer ∷ [])
      (all_each vector is.before is.states is.first is.all_before)
      (All-cons P (fetch_of centre vector is.object is.answer) [] (fetches vector is.object is.answer) (All-nil P)))

  after_each : (objects : List ObjectId) (found : Found) (say : Say) (deeds : List Deed) → AfterPrune centre objects found say deeds → All P deeds
  after_each objects found (said.Base base folded trimmed) deeds is = behind_each base objects found deeds is
  after_each objects found say deeds is = subst (All P) (sym is.0) (All-nil P)

  -- and all asks of a feed
  finds_each : (objects : List ObjectId) (found : Found) (deeds : List Deed) → Finds centre objects found deeds → All P deeds
  finds_each objects found deeds is = subst (All P) (sym is.whole) (All-cons P (Asked centre Prune (Unheard is.answer)) is.later (prunes is.answer) (after_each objects found is.answer is.later is.follows))

  -- what the prune, each fetch and the line have, each deed of a feed has
  pub feed_each : (objects : List ObjectId) (deeds : List Deed) → FeedDeeds centre objects deeds → All P deeds
  feed_each [] deeds is = subst (All P) (sym is) (All-nil P)
  feed_each (object ∷ objects) deeds is = subst (All P) (sym is.whole) (All-append P is.asks (Told (line.Feed centre (fed_of is.found)) ∷ [])
      (finds_each (object ∷ objects) is.found is.asks is.finds)
      (All-cons P (Told (line.Feed centre (fed_of is.found))) [] (tells (fed_of is.found)) (All-nil P)))
