-- What the asks of a feed come to, one after another, and what its line tells.
use Rattle.std.proofs.Common.{◌≡◌, ℕ, suc, ◌<◌, ◌==◌, true, false, length, List, [], ◌∷◌, ◌++◌, take, drop, get_or, drop-cons, Option, Some, None, refl, sym, ap, ◌∙◌, subst, arith}
use Rattle.std.specs.Prelude.{slice_get}
use Rattle.std.specs.List.{filter_map, cons_option}
use Rattle.std.specs.Option.{option_map}
use Rattle.std.proofs.lemmas.Bool.{false≢true, eqb-true}
use Rattle.std.proofs.lemmas.Option.{none-some, same_Some}
use Rattle.std.proofs.lemmas.List.{length-append, take-append-drop, append-nil}
use Rattle.std.proofs.lemmas.List.Elements.{filter_map-append}
use Rattle.ids_core.specs.declared.object.ObjectId.{ObjectId}
use Rattle.tx_core.specs.declared.state.State.{State}
use Rattle.dc_talk.specs.declared.ask.Ask.TheVariants.{Prune, Fetch}
use Rattle.dc_talk.specs.declared.say.Say.{Say}
use Rattle.dc_talk.specs.declared.say.Say.TheVariants as said
use Rattle.dc_talk.specs.declared.log.Fate.TheVariants.{Unheard}
use Rattle.dc_talk.specs.declared.log.Deed.{Deed}
use Rattle.dc_talk.specs.declared.log.Deed.TheVariants.{Asked, Told}
use Rattle.dc_talk.specs.declared.line.Line.TheVariants as line
use Rattle.dc_talk.specs.Doors.{belongs}
use Rattle.dc_talk.specs.Logs.{Logged, noted}
use Rattle.dc_talk.specs.Acting.{Acting, acting}
use Rattle.dc_worker.specs.Work.{Adds, AddsSuch}
use Rattle.dc_worker.proofs.Work.{adds_none, adds_told, adds_then}
use Rattle.script_core.specs.declared.taps.Show.{Show}
use Rattle.dc_talk.specs.declared.seen.Fed.{Fed}
use Rattle.dc_talk.specs.declared.seen.Fed.TheVariants.{Shown, Down, Pruned, Refused}
use Rattle.dc_worker.specs.declared.feeds.Fetched.TheVariants as fetch
use Rattle.script_core.specs.declared.taps.Found.{Found}
use Rattle.script_core.specs.declared.taps.Found.TheVariants.{Whole, Ended}
use Rattle.script_core.specs.Feeds.{end_by, fetch_of, fetches_of, FetchesAll, FetchesSome, Fetches, AfterPrune, Finds, fed_of, state_got, vector_told, show_in, FeedDeeds, FeedGives}
use Rattle.dc_worker.specs.Feeds.{HasFetched, show_found}

-- ---- answers

-- an answer to a prune that is no base ends the feed
pub prune_ends : (answer : Say) → belongs Prune answer ≡ true → ((base : List ℕ) (folded trimmed : ℕ) → answer ≡ said.Base base folded trimmed → ⊥) → end_by answer ≡ None → ⊥
prune_ends said.Misfit row not none = none-some Refused (sym none)
prune_ends said.Down row not none = none-some Down (sym none)
prune_ends (said.Base base folded trimmed) row not none = not base folded trimmed refl
prune_ends answer row not none = false≢true row

-- an answer to a fetch that is no state ends the feed
pub fetch_ends : (object : ObjectId) (vector : List ℕ) (answer : Say) → belongs (Fetch object vector) answer ≡ true → ((state : State) → answer ≡ said.Object state → ⊥) → end_by answer ≡ None → ⊥
fetch_ends object vector said.Misfit row not none = none-some Refused (sym none)
fetch_ends object vector said.Down row not none = none-some Down (sym none)
fetch_ends object vector (said.Lacks centre wanted have) row not none = none-some Refused (sym none)
fetch_ends object vector (said.Pruned centre base low) row not none = none-some Pruned (sym none)
fetch_ends object vector (said.Object state) row not none = not state refl
fetch_ends object vector answer row not none = false≢true row

-- ---- fetches

-- a list is what stands before a place, what stands there, and what stands behind it
pub parted : {X : Type 0} (xs : List X) (place : ℕ) (x : X) → place < length xs → x ≡ get_or xs place x → xs ≡ take place xs ++ x ∷ drop (suc place) xs
parted xs place x lt is = sym (take-append-drop place xs) ∙ ap (λ l. take place xs ++ l) (drop-cons xs place x lt ∙ ap (λ y. y ∷ drop (suc place) xs) (sym is))

-- no object is fetched yet
pub fetched_none : (centre : ℕ) (vector : List ℕ) (a : Acting) → AddsSuch (FetchesAll centre vector [] []) a a
fetched_none centre vector a = record { deeds = []; such = record { number = refl; deeds_are = refl }; adds = adds_none a }

-- the fetches with one object more
fetches_more : (centre : ℕ) (vector : List ℕ) (objects : List ObjectId) (object : ObjectId) (states : List State) (state : State) → length states ≡ length objects → fetches_of centre vector (objects ++ object ∷ []) (states ++ state ∷ []) ≡ fetches_of centre vector objects states ++ fetch_of centre vector object (said.Object state) ∷ []
fetches_more centre vector [] object [] state same = refl
fetches_more centre vector [] object (s ∷ states) state same = absurd (omega (arith, same))
fetches_more centre vector (o ∷ objects) object [] state same = absurd (omega (arith, same))
fetches_more centre vector (o ∷ objects) object (s ∷ states) state same = ap (λ (deeds : List Deed). fetch_of centre vector o (said.Object s) ∷ deeds) (fetches_more centre vector objects object states state (omega (arith, same)))

-- one object more, which was answered with its state
pub fetched_more : (centre : ℕ) (vector : List ℕ) (objects : List ObjectId) (object : ObjectId) (states states' : List State) (state : State) (a b c : Acting) → states' ≡ states ++ state ∷ [] → AddsSuch (FetchesAll centre vector objects states) a b → HasFetched centre vector object (fetch.Got state) b c → AddsSuch (FetchesAll centre vector (objects ++ object ∷ []) states') a c
fetched_more centre vector objects object states states' state a b c is before one =
    let deed : List Deed = fetch_of centre vector object (said.Object state) ∷ [] in
    let adds : Adds b c deed = subst (λ (answer : Say). Adds b c (fetch_of centre vector object answer ∷ [])) one.came_to one.adds in
    record {
      deeds = before.deeds ++ deed;
      such = record {
        number = omega (arith, ap length is, length-append states (state ∷ []), length-append objects (object ∷ []), before.such.number);
        deeds_are = ap (λ (deeds : List Deed). deeds ++ deed) before.such.deeds_are ∙ (sym (fetches_more centre vector objects object states state before.such.number) ∙ ap (fetches_of centre vector (objects ++ object ∷ [])) (sym is));
      };
      adds = adds_then a b c before.deeds deed before.adds adds;
    }

-- one object more, whose answer ended the feed
pub fetched_last : (centre : ℕ) (vector : List ℕ) (all before : List ObjectId) (object : ObjectId) (later : List ObjectId) (states : List State) (fed : Fed) (a b c : Acting) → all ≡ before ++ object ∷ later → AddsSuch (FetchesAll centre vector before states) a b → HasFetched centre vector object (fetch.Ended fed) b c → AddsSuch (Fetches centre vector all (Ended fed)) a c
fetched_last centre vector all before object later states fed a b c is so one =
    let deed : List Deed = fetch_of centre vector object one.answer ∷ [] in
    let such : FetchesSome centre vector all fed (so.deeds ++ deed) = record { before = before; object = object; later = later; objects_are = is; states = states; first = so.deeds; all_before = so.such; answer = one.answer; deeds_are = refl; ends = one.came_to } in
    record { deeds = so.deeds ++ deed; such = such; adds = adds_then a b c so.deeds deed so.adds one.adds }

-- all objects are fetched
pub fetched_all : (centre : ℕ) (vector : List ℕ) (all objects : List ObjectId) (states : List State) (a b : Acting) → objects ≡ all → AddsSuch (FetchesAll centre vector objects states) a b → AddsSuch (Fetches centre vector all (Whole (record { vector = vector; states = states }))) a b
fetched_all centre vector all objects states a b is so = record { deeds = so.deeds; such = (refl, subst (λ (objects : List ObjectId). FetchesAll centre vector objects states so.deeds) is so.such); adds = so.adds }

-- ---- feeds

-- fetches behind a prune that was answered with a base
pub finds_base : (centre : ℕ) (objects : List ObjectId) (answer : Say) (base : List ℕ) (folded trimmed : ℕ) (found : Found) (a b c : Acting) → Adds a b (Asked centre Prune (Unheard answer) ∷ []) → answer ≡ said.Base base folded trimmed → AddsSuch (Fetches centre base objects found) b c → AddsSuch (Finds centre objects found) a c
finds_base centre objects answer base folded trimmed found a b c pruned is later =
    let deed : List Deed = Asked centre Prune (Unheard answer) ∷ [] in
    let such : Finds centre objects found (deed ++ later.deeds) = record { answer = answer; later = later.deeds; whole = refl; follows = subst (λ (answer : Say). AfterPrune centre objects found answer later.deeds) (sym is) later.such } in
    record { deeds = deed ++ later.deeds; such = such; adds = adds_then a b c deed later.deeds pruned later.adds }

-- nothing follows an answer to a prune that ends the feed
after_end : (centre : ℕ) (objects : List ObjectId) (fed : Fed) (answer : Say) → ((base : List ℕ) (folded trimmed : ℕ) → answer ≡ said.Base base folded trimmed → ⊥) → end_by answer ≡ Some fed → AfterPrune centre objects (Ended fed) answer []
after_end centre objects fed (said.Base base folded trimmed) not ends = absurd (not base folded trimmed refl)
after_end centre objects fed answer not ends = (refl, ends)

-- a prune that ended the feed
pub finds_end : (centre : ℕ) (objects : List ObjectId) (answer : Say) (fed : Fed) (a b : Acting) → Adds a b (Asked centre Prune (Unheard answer) ∷ []) → ((base : List ℕ) (folded trimmed : ℕ) → answer ≡ said.Base base folded trimmed → ⊥) → end_by answer ≡ Some fed → AddsSuch (Finds centre objects (Ended fed)) a b
finds_end centre objects answer fed a b pruned not ends =
    let deed : List Deed = Asked centre Prune (Unheard answer) ∷ [] in
    let such : Finds centre objects (Ended fed) deed = record { answer = answer; later = []; whole = refl; follows = after_end centre objects fed answer not ends } in
    record { deeds = deed; such = such; adds = pruned }

-- ---- shows

-- fetches tell no vector
untold : (centre : ℕ) (vector : List ℕ) (objects : List ObjectId) (states : List State) → filter_map vector_told (fetches_of centre vector objects states) ≡ []
untold centre vector [] states = refl
untold centre vector (object ∷ objects) [] = refl
untold centre vector (object ∷ objects) (state ∷ states) = untold centre vector objects states

-- they got the states of which as many are as objects
got : (centre : ℕ) (vector : List ℕ) (objects : List ObjectId) (states : List State) → length states ≡ length objects → filter_map state_got (fetches_of centre vector objects states) ≡ states
got centre vector [] [] same = refl
got centre vector [] (state ∷ states) same = absurd (omega (arith, same))
got centre vector (object ∷ objects) [] same = absurd (omega (arith, same))
got centre vector (object ∷ objects) (state ∷ states) same = ap (λ (states : List State). state ∷ states) (got centre vector objects states (omega (arith, same)))

-- nor do those of which the last one ended the feed
untold_some : (centre : ℕ) (vector : List ℕ) (objects : List ObjectId) (fed : Fed) (deeds : List Deed) → FetchesSome centre vector objects fed deeds → filter_map vector_told deeds ≡ []
untold_some centre vector objects fed deeds is =
    let last : List Deed = fetch_of centre vector is.object is.answer ∷ [] in
    let first : filter_map vector_told is.first ≡ [] = ap (filter_map vector_told) is.all_before.deeds_are ∙ untold centre vector is.before is.states in
    ap (filter_map vector_told) is.deeds_are ∙ (filter_map-append vector_told is.first last ∙ ap (λ (front : List (List ℕ)). front ++ []) first)

-- an end of a feed tells no vector
end_told : (centre : ℕ) (answer : Say) (fed : Fed) → end_by answer ≡ Some fed → vector_told (Told (line.Feed centre fed)) ≡ None
end_told centre said.Down fed ends = subst (λ (fed : Fed). vector_told (Told (line.Feed centre fed)) ≡ None) (same_Some Down fed ends) refl
end_told centre (said.Pruned at base low) fed ends = subst (λ (fed : Fed). vector_told (Told (line.Feed centre fed)) ≡ None) (same_Some Pruned fed ends) refl
end_told centre (said.Lacks at wanted have) fed ends = subst (λ (fed : Fed). vector_told (Told (line.Feed centre fed)) ≡ None) (same_Some Refused fed ends) refl
end_told centre said.Misfit fed ends = subst (λ (fed : Fed). vector_told (Told (line.Feed centre fed)) ≡ None) (same_Some Refused fed ends) refl
end_told centre answer fed ends = absurd (none-some fed ends)

-- the show with these states, where a vector was told
abbrev shown_with : List State → List (List ℕ) → Option Show
shown_with states told = option_map (λ (vector : List ℕ). record { vector = vector; states = states }) (slice_get told 0)

-- asks that told no vector, and the line behind them of an end
shows_none : (centre : ℕ) (answer : Say) (fed : Fed) (asks : List Deed) → filter_map vector_told asks ≡ [] → end_by answer ≡ Some fed → show_in (asks ++ Told (line.Feed centre fed) ∷ []) ≡ None
shows_none centre answer fed asks quiet ends =
    let deeds : List Deed = asks ++ Told (line.Feed centre fed) ∷ [] in
    let none : filter_map vector_told deeds ≡ [] = filter_map-append vector_told asks (Told (line.Feed centre fed) ∷ []) ∙ (ap (λ (front : List (List ℕ)). front ++ cons_option (vector_told (Told (line.Feed centre fed))) []) quiet ∙ ap (λ (told : Option (List ℕ)). cons_option told []) (end_told centre answer fed ends)) in
    ap (λ (told : List (List ℕ)). shown_with (filter_map state_got deeds) told) none

-- asks that told no vector and got these states, and the line behind them of a show
shows_one : (centre : ℕ) (show : Show) (asks : List Deed) → filter_map vector_told asks ≡ [] → filter_map state_got asks ≡ show.states → show_in (asks ++ Told (line.Feed centre (Shown show.vector)) ∷ []) ≡ Some show
shows_one centre show asks quiet states =
    let last : List Deed = Told (line.Feed centre (Shown show.vector)) ∷ [] in
    let told : filter_map vector_told (asks ++ last) ≡ show.vector ∷ [] = filter_map-append vector_told asks last ∙ ap (λ (front : List (List ℕ)). front ++ show.vector ∷ []) quiet in
    let all : filter_map state_got (asks ++ last) ≡ show.states = filter_map-append state_got asks last ∙ (append-nil (filter_map state_got asks) ∙ states) in
    λ i. shown_with (all i) (told i)

-- the line behind the asks of a feed tells the show that they found
pub shows_found : (centre : ℕ) (objects : List ObjectId) (found : Found) (asks : List Deed) → Finds centre objects found asks → show_in (asks ++ Told (line.Feed centre (fed_of found)) ∷ []) ≡ show_found found
shows_found centre objects found asks is = subst (λ (asks : List Deed). show_in (asks ++ Told (line.Feed centre (fed_of found)) ∷ []) ≡ show_found found) (sym is.whole) (go found is.answer is.later is.follows)
  where
    go : (found : Found) (answer : Say) (later : List Deed) → AfterPrune centre objects found answer later → show_in ((Asked centre Prune (Unheard answer) ∷ later) ++ Told (line.Feed centre (fed_of found)) ∷ []) ≡ show_found found
    go (Whole show) (said.Base base folded trimmed) later all = shows_one centre show (Asked centre Prune (Unheard (said.Base base folded trimmed)) ∷ later) (ap (filter_map vector_told) all.1.deeds_are ∙ untold centre base objects show.states) (ap (filter_map state_got) all.1.deeds_are ∙ got centre base objects show.states all.1.number)
    go (Whole show) answer later follows = absurd follows.1
    go (Ended fed) (said.Base base folded trimmed) later some = shows_none centre some.answer fed (Asked centre Prune (Unheard (said.Base base folded trimmed)) ∷ later) (untold_some centre base objects fed later some) some.ends
    go (Ended fed) answer later follows = shows_none centre answer fed (Asked centre Prune (Unheard answer) ∷ later) (ap (filter_map vector_told) follows.0) follows.1

-- ---- whole feeds

-- a tap with no object is not fed
pub feeds_none : (centre : ℕ) (objects : List ObjectId) (a : Acting) → (length objects == 0) ≡ true → AddsSuch (FeedGives centre objects None) a a
feeds_none centre [] a is = record { deeds = []; such = (refl, refl); adds = adds_none a }
feeds_none centre (object ∷ objects) a is = absurd (omega (arith, eqb-true (length (object ∷ objects)) 0 is))

-- the asks of a feed, and its line behind them
pub feeds_told : (centre : ℕ) (objects : List ObjectId) (found : Found) (a b : Acting) (later : Logged) → (length objects == 0) ≡ false → AddsSuch (Finds centre objects found) a b → later ≡ noted b.log (Told (line.Feed centre (fed_of found))) → AddsSuch (FeedGives centre objects (show_found found)) a (acting b.door later)
feeds_told centre [] found a b later some so told = absurd (false≢true (sym some))
feeds_told centre (object ∷ objects) found a b later some so told =
    let last : List Deed = Told (line.Feed centre (fed_of found)) ∷ [] in
    let feeds : FeedDeeds centre (object ∷ objects) (so.deeds ++ last) = record { found = found; asks = so.deeds; finds = so.such; whole = refl } in
    record { deeds = so.deeds ++ last; such = (feeds, shows_found centre (object ∷ objects) found so.deeds so.such); adds = adds_then a b (acting b.door later) so.deeds last so.adds (adds_told b.door b.log later (line.Feed centre (fed_of found)) told) }
