-- The deeds of a feed of the same objects are the same, or part at an answer.
use Rattle.std.proofs.Common.{◌≡◌, ℕ, ◌⊎◌, inl, inr, List, [], ◌∷◌, ◌++◌, length, Option, Some, None, refl, sym, ap, ◌∙◌, subst, arith}
use Rattle.std.proofs.lemmas.Option.{none-some}
use Rattle.ids_core.specs.declared.object.ObjectId.{ObjectId}
use Rattle.tx_core.specs.declared.state.State.{State}
use Rattle.dc_talk.specs.declared.ask.Ask.TheVariants.{Prune, Fetch}
use Rattle.dc_talk.specs.declared.say.Say.{Say}
use Rattle.dc_talk.specs.declared.say.Say.TheVariants as said
use Rattle.dc_talk.specs.declared.log.Fate.TheVariants.{Unheard}
use Rattle.dc_talk.specs.declared.log.Deed.{Deed}
use Rattle.dc_talk.specs.declared.log.Deed.TheVariants.{Asked, Told}
use Rattle.dc_talk.specs.declared.line.Line.TheVariants as line
use Rattle.dc_talk.specs.declared.seen.Fed.{Fed}
use Rattle.dc_talk.specs.declared.seen.Fed.TheVariants.{Shown}
use Rattle.script_core.specs.declared.taps.Found.{Found}
use Rattle.script_core.specs.declared.taps.Found.TheVariants.{Whole, Ended}
use Rattle.script_core.specs.Feeds.{end_by, fetch_of, fetches_of, Fetches, IsEnd, AfterPrune, Finds, fed_of, FeedDeeds}
use Rattle.run_forks.proofs.Forks.{OneWith, Same, with_as, with_then, both_are, by_unheard}

-- ---- fetches, one by one

-- the object was fetched, and what is behind the fetch is so
record GoesOn (answer : Say) (Rest : List Deed → Type 0) (later : List Deed) : Type 0 where
  state : State
  got : answer ≡ said.Object state
  rest : Rest later

-- the answer ended the feed, and nothing is behind it
record Stops (answer : Say) (end : Option Fed) (later : List Deed) : Type 0 where
  fed : Fed
  by : end_by answer ≡ Some fed
  none : later ≡ []
  ended : end ≡ Some fed

-- a fetch of an object, and what is behind it
record HasAsked (centre : ℕ) (vector : List ℕ) (object : ObjectId) (end : Option Fed) (Rest : List Deed → Type 0) (deeds : List Deed) : Type 0 where
  answer : Say
  later : List Deed
  whole : deeds ≡ fetch_of centre vector object answer ∷ later
  follows : GoesOn answer Rest later ⊎ Stops answer end later

-- fetches of objects up to one that ended the feed so, or of all
abbrev Goes : ℕ → List ℕ → List ObjectId → Option Fed → List Deed → Type 0
Goes centre vector [] end deeds = (deeds ≡ []) × (end ≡ None)
Goes centre vector (object ∷ objects) end deeds = HasAsked centre vector object end (Goes centre vector objects end) deeds

-- how fetches ended the feed, where they did
abbrev stop_of : Found → Option Fed
stop_of (Whole show) = None
stop_of (Ended fed) = Some fed

-- an answer with a state does not end it
goes_or_stops : (answer : Say) (Rest : List Deed → Type 0) (end : Option Fed) (later more : List Deed) → GoesOn answer Rest later → Stops answer end more → ⊥
goes_or_stops answer Rest end later more on stop =
    let never : None ≡ Some stop.fed = ap end_by (sym on.got) ∙ stop.by in
    none-some stop.fed never

module _ (centre : ℕ) (vector : List ℕ) where
  -- all of them were fetched
  all_go : (objects : List ObjectId) (states : List State) → length states ≡ length objects → Goes centre vector objects None (fetches_of centre vector objects states)
  all_go [] states number = (refl, refl)
  all_go (object ∷ objects) [] number = absurd (omega (arith, number))
  all_go (object ∷ objects) (state ∷ states) number = record {
    answer = said.Object state;
    later = fetches_of centre vector objects states;
    whole = refl;
    follows = inl (record { state = state; got = refl; rest = all_go objects states (omega (arith, number)) });
  }

  -- some of them were, and then one ended it
  some_go : (before : List ObjectId) (states : List State) (object : ObjectId) (behind : List ObjectId) (answer : Say) (fed : Fed) → length states ≡ length before → end_by answer ≡ Some fed → Goes centre vector (before ++ object ∷ behind) (Some fed) (fetches_of centre vector before states ++ fetch_of centre vector object answer ∷ [])
  some_go [] states object behind answer fed number by = record { answer = answer; later = []; whole = refl; follows = inr (record { fed = fed; by = by; none = refl; ended = refl }) }
  some_go (first ∷ before) [] object behind answer fed number by = absurd (omega (arith, number))
  some_go (first ∷ before) (state ∷ states) object behind answer fed number by = record {
    answer = said.Object state;
    later = fetches_of centre vector before states ++ fetch_of centre vector object answer ∷ [];
    whole = refl;
    follows = inl (record { state = state; got = refl; rest = some_go before states object behind answer fed (omega (arith, number)) by });
  }

  -- what fetches came to is so
  came_go : (objects : List ObjectId) (found : Found) (deeds : List Deed) → Fetches centre vector objects found deeds → Goes centre vector objects (stop_of found) deeds
  came_go objects (Whole show) deeds is = subst (Goes centre vector objects None) (sym is.1.deeds_are) (all_go objects show.states is.1.number)
  came_go objects (Ended fed) deeds is =
      let last : Deed = fetch_of centre vector is.object is.answer in
      let whole : deeds ≡ fetches_of centre vector is.before is.states ++ last ∷ [] = is.deeds_are ∙ ap (λ ds. ds ++ last ∷ []) is.all_before.deeds_are in
      subst (λ os. Goes centre vector os (Some fed) deeds) (sym is.objects_are)
      (subst (Goes centre vector (is.before ++ is.object ∷ is.later) (Some fed)) (sym whole)
      (some_go is.before is.states is.object is.later is.answer fed is.all_before.number is.ends))

  -- behind the same answer
  behind_fork : (answer : Say) (Rest Other : List Deed → Type 0) (end again : Option Fed) (ds es : List Deed) → (Rest ds → Other es → OneWith ds es (end ≡ again)) → GoesOn answer Rest ds ⊎ Stops answer end ds → GoesOn answer Other es ⊎ Stops answer again es → OneWith ds es (end ≡ again)
  behind_fork answer Rest Other end again ds es on (inl one) (inl two) = on one.rest two.rest
  behind_fork answer Rest Other end again ds es on (inl one) (inr two) = absurd (goes_or_stops answer Rest again ds es one two)
  behind_fork answer Rest Other end again ds es on (inr one) (inl two) = absurd (goes_or_stops answer Other end es ds two one)
  behind_fork answer Rest Other end again ds es on (inr one) (inr two) =
      let same : Some one.fed ≡ Some two.fed = sym one.by ∙ two.by in
      inl (one.none ∙ sym two.none, one.ended ∙ (same ∙ sym two.ended))

  -- fetches of the same objects
  goes_fork : (objects : List ObjectId) (ds es : List Deed) (end again : Option Fed) → Goes centre vector objects end ds → Goes centre vector objects again es → OneWith ds es (end ≡ again)
  goes_fork [] ds es end again one two = inl (one.0 ∙ sym two.0, one.1 ∙ sym two.1)
  goes_fork (object ∷ objects) ds es end again one two =
      with_as (fetch_of centre vector object one.answer ∷ one.later) (fetch_of centre vector object two.answer ∷ two.later) ds es (end ≡ again) one.whole two.whole
      (by_unheard centre (Fetch object vector) one.answer two.answer one.later two.later (end ≡ again)
      (λ same. behind_fork one.answer (Goes centre vector objects end) (Goes centre vector objects again) end again one.later two.later
      (λ first later. goes_fork objects one.later two.later end again first later) one.follows
      (subst (λ say. GoesOn say (Goes centre vector objects again) two.later ⊎ Stops say again two.later) (sym same) two.follows)))

  -- which ended the same show the same
  same_fed : (objects : List ObjectId) (found again : Found) (ds es : List Deed) → Fetches centre vector objects found ds → Fetches centre vector objects again es → stop_of found ≡ stop_of again → fed_of found ≡ fed_of again
  same_fed objects (Whole show) (Whole other) ds es one two same = ap Shown (one.0 ∙ sym two.0)
  same_fed objects (Whole show) (Ended fed) ds es one two same = absurd (none-some fed same)
  same_fed objects (Ended fed) (Whole show) ds es one two same = absurd (none-some fed (sym same))
  same_fed objects (Ended fed) (Ended other) ds es one two same = let is : Some fed ≡ Some other = same in cc

  fetches_fork : (objects : List ObjectId) (found again : Found) (ds es : List Deed) → Fetches centre vector objects found ds → Fetches centre vector objects again es → OneWith ds es (fed_of found ≡ fed_of again)
  fetches_fork objects found again ds es one two =
      go (goes_fork objects ds es (stop_of found) (stop_of again) (came_go objects found ds one) (came_go objects again es two))
    where
      go : OneWith ds es (stop_of found ≡ stop_of again) → OneWith ds es (fed_of found ≡ fed_of again)
      go (inl is) = inl (is.0, same_fed objects found again ds es one two is.1)
      go (inr f) = inr f

-- ---- a feed

-- how the same answer ended it
same_end : (answer : Say) (found again : Found) → IsEnd answer found → IsEnd answer again → fed_of found ≡ fed_of again
same_end answer (Whole show) again one two = absurd one
same_end answer (Ended fed) (Whole show) one two = absurd two
same_end answer (Ended fed) (Ended other) one two = let same : Some fed ≡ Some other = sym one ∙ two in cc

module _ (centre : ℕ) (objects : List ObjectId) where
  -- behind the same answer to the prune
  after_fork : (found again : Found) (answer : Say) (ds es : List Deed) → AfterPrune centre objects found answer ds → AfterPrune centre objects again answer es → OneWith ds es (fed_of found ≡ fed_of again)
  after_fork found again (said.Base base folded trimmed) ds es one two = fetches_fork centre base objects found again ds es one two
  after_fork found again answer ds es one two = inl (one.0 ∙ sym two.0, same_end answer found again one.1 two.1)

  finds_fork : (found again : Found) (ds es : List Deed) → Finds centre objects found ds → Finds centre objects again es → OneWith ds es (fed_of found ≡ fed_of again)
  finds_fork found again ds es one two =
      with_as (Asked centre Prune (Unheard one.answer) ∷ one.later) (Asked centre Prune (Unheard two.answer) ∷ two.later) ds es (fed_of found ≡ fed_of again) one.whole two.whole
      (by_unheard centre Prune one.answer two.answer one.later two.later (fed_of found ≡ fed_of again)
      (λ same. after_fork found again one.answer one.later two.later one.follows (subst (λ say. AfterPrune centre objects again say two.later) (sym same) two.follows)))

-- feeds of the same objects
pub feed_fork : (centre : ℕ) (objects : List ObjectId) (ds es : List Deed) → FeedDeeds centre objects ds → FeedDeeds centre objects es → Same ds es
feed_fork centre [] ds es one two = both_are ds es [] one two
feed_fork centre (object ∷ objects) ds es one two =
    let last : Fed → List Deed = λ fed. Told (line.Feed centre fed) ∷ [] in
    with_as (one.asks ++ last (fed_of one.found)) (two.asks ++ last (fed_of two.found)) ds es (Unit {0}) one.whole two.whole
    (with_then one.asks two.asks (last (fed_of one.found)) (last (fed_of two.found)) (fed_of one.found ≡ fed_of two.found) (Unit {0})
    (finds_fork centre (object ∷ objects) one.found two.found one.asks two.asks one.finds two.finds) (λ same. inl (ap last same, tt)))
