-- What feeds whose entries stand in a trail show of it.
use Rattle.std.proofs.Common.{◌≡◌, ℕ, suc, ◌+◌, ◌≤◌, ◌⊎◌, inl, inr, List, [], ◌∷◌, ◌++◌, map, length, drop, refl, sym, ap, ◌∙◌, subst, arith}
use Rattle.std.specs.Prelude.{flat_map}
use Rattle.std.proofs.lemmas.Bool.{eq-eqb}
use Rattle.std.proofs.lemmas.List.{append-nil, append_assoc, drop-drop}
use Rattle.list_core.specs.Members.{In}
use Rattle.list_core.proofs.Gets.{In_get, get_in_drop}
use Rattle.list_core.proofs.Members.{In_left}
use Rattle.ids_core.specs.declared.object.ObjectId.{ObjectId}
use Rattle.tx_core.specs.declared.state.State.{State}
use Rattle.dc_talk.specs.declared.ask.Ask.{Ask}
use Rattle.dc_talk.specs.declared.ask.Ask.TheVariants.{Fetch, Prune}
use Rattle.dc_talk.specs.declared.say.Say.{Say}
use Rattle.dc_talk.specs.declared.say.Say.TheVariants.{Object, Base}
use Rattle.dc_talk.specs.declared.log.Fate.TheVariants.{Unheard}
use Rattle.dc_talk.specs.declared.log.Deed.{Deed}
use Rattle.dc_talk.specs.declared.log.Deed.TheVariants.{Asked}
use Rattle.dc_talk.specs.declared.settings.Settings.{Settings}
use Rattle.dc_talk.specs.Entries.{Entry}
use Rattle.dc_talk.specs.Logs.{entry_for, entries_made}
use Rattle.dc_talk.specs.Objects.{state_at}
use Rattle.dc_talk.specs.Trails.{applied}
use Rattle.dc_talk.specs.Answers.{History}
use Rattle.dc_talk.proofs.Doors.{made_one, made_then}
use Rattle.script_core.specs.declared.taps.Show.{Show}
use Rattle.dc_talk.specs.declared.seen.Fed.{Fed}
use Rattle.script_core.specs.Feeds.{fetches_of}
use Rattle.read_tap.specs.Feeds.{Feeds}
use Rattle.read_tap.proofs.Feeding.{by_feed}
use Rattle.show_law.specs.Subsequences.{IsSubsequence}
use Rattle.show_law.specs.Fronts.{through, IsPrunedAt}
use Rattle.show_law.specs.Shows.{IsShowAt, IsShowOf, AreShowsFrom, IsFeedOf, HasShown, FeedsAll}
use Rattle.show_law.proofs.Subsequences.{StandsFirst, stands_first, sub_right, sub_In}
use Rattle.show_law.proofs.Fronts.{base_is, fetched_is}

-- ---- entries

-- an ask that nobody hears makes its entry in front of those of the later deeds
made_first : (actor centre : ℕ) (ask : Ask) (say : Say) (deeds : List Deed) → entries_made actor centre (Asked centre ask (Unheard say) ∷ deeds) ≡ entry_for actor (ask, say) ∷ entries_made actor centre deeds
made_first actor centre ask say deeds = made_then actor centre (Asked centre ask (Unheard say) ∷ []) deeds ∙ ap (λ l. l ++ entries_made actor centre deeds) (made_one actor centre centre ask (Unheard say) say (eq-eqb centre centre refl) refl)

-- where each fetch is answered with what a rule gives for its object, so are all
fetched_all : (rule : ObjectId → State) (actor centre : ℕ) (v : List ℕ) (objects : List ObjectId) (states : List State) → length states ≡ length objects → ((o : ObjectId) (state : State) → In (entry_for actor (Fetch o v, Object state)) (entries_made actor centre (fetches_of centre v objects states)) → state ≡ rule o) → states ≡ map rule objects
fetched_all rule actor centre v [] [] same each = refl
fetched_all rule actor centre v [] (state ∷ states) same each = absurd (omega (arith, same))
fetched_all rule actor centre v (o ∷ objects) [] same each = absurd (omega (arith, same))
fetched_all rule actor centre v (o ∷ objects) (state ∷ states) same each =
    let made = made_first actor centre (Fetch o v) (Object state) (fetches_of centre v objects states) in
    let here : state ≡ rule o = each o state (subst (λ l. In (entry_for actor (Fetch o v, Object state)) l) (sym made) (inl refl)) in
    let rest = fetched_all rule actor centre v objects states (omega (arith, same)) (λ p other i. each p other (subst (λ l. In (entry_for actor (Fetch p v, Object other)) l) (sym made) (inr i))) in
    ap (λ x. x ∷ states) here ∙ ap (λ l. rule o ∷ l) rest

-- ---- one feed

-- a show stands at a place of the trail that is not before another one, and other entries stand behind it
record ShowsPast (s : Settings) (trail : List Entry) (objects : List ObjectId) (least : ℕ) (show : Show) (more : List Entry) : Type 0 where
  place : ℕ
  low : least ≤ place
  at : IsShowAt s trail objects place show
  behind : IsSubsequence more (drop (suc place) trail)

-- a feed added the show that it found, or none
pub either_way : (centre : ℕ) (objects : List ObjectId) (old new : List Show) (fed : Fed) (deeds : List Deed) → Feeds centre objects old new fed deeds → (new ≡ old) ⊎ HasShown centre objects old new fed deeds
either_way centre objects old new fed deeds feeds = by_feed ((new ≡ old) ⊎ HasShown centre objects old new fed deeds) centre objects old new fed deeds feeds
    (λ show folded trimmed later ends shows whole fetches. inr (record { show = show; ends = ends; shows = shows; feed = record { folded = folded; trimmed = trimmed; later = later; whole = whole; fetches = fetches } }))
    (λ same. inl same)

module _ (s : Settings) (trail : List Entry) (history : History s trail) (actor centre : ℕ) (objects : List ObjectId) where
  -- the show of a feed whose entries stand in the trail from a place on, with others behind them
  shows_past : (least : ℕ) (show : Show) (deeds : List Deed) (more : List Entry) → IsFeedOf centre objects show deeds → IsSubsequence (entries_made actor centre deeds ++ more) (drop least trail) → ShowsPast s trail objects least show more
  shows_past least show deeds more feed sub = record {
    place = place;
    low = omega arith;
    at = record { pruned = is_pruned; base = base_is s trail place show.vector history is_pruned; states = fetched_all (λ o. state_at o (applied s.n (through place trail)) show.vector) actor centre show.vector objects show.states feed.fetches.number fetched };
    behind = sub_right fetches more (drop (suc place) trail) behind;
  }
    where
      fetches : List Entry
      fetches = entries_made actor centre (fetches_of centre show.vector objects show.states)

      entry : Entry
      entry = entry_for actor (Prune, Base show.vector feed.folded feed.trimmed)

      made : entries_made actor centre deeds ≡ entry ∷ fetches
      made =
          ap (entries_made actor centre) feed.whole
          ∙ (made_first actor centre Prune (Base show.vector feed.folded feed.trimmed) feed.later
          ∙ ap (λ l. entry ∷ entries_made actor centre l) feed.fetches.deeds_are)

      first : StandsFirst entry (fetches ++ more) (drop least trail)
      first = stands_first entry (fetches ++ more) (drop least trail) (subst (λ l. IsSubsequence (l ++ more) (drop least trail)) made sub)

      place : ℕ
      place = least + first.place

      is_pruned : IsPrunedAt trail place show.vector
      is_pruned = record { entry = entry; there = get_in_drop least trail first.place entry first.there; asks = refl; folded = feed.folded; trimmed = feed.trimmed; says = refl }

      behind : IsSubsequence (fetches ++ more) (drop (suc place) trail)
      behind =
          let same : least + suc first.place ≡ suc place = omega arith in
          subst (λ l. IsSubsequence (fetches ++ more) l) (drop-drop (suc first.place) least trail ∙ ap (λ k. drop k trail) same) first.behind

      fetched : (o : ObjectId) (state : State) → In (entry_for actor (Fetch o show.vector, Object state)) fetches → state ≡ state_at o (applied s.n (through place trail)) show.vector
      fetched o state i =
          let e = entry_for actor (Fetch o show.vector, Object state) in
          let there = In_get (drop (suc place) trail) e (sub_In (fetches ++ more) (drop (suc place) trail) behind e (In_left fetches more e i)) in
          fetched_is s trail place (suc place + there.0) show.vector o state history is_pruned (omega arith) (record { entry = e; there = get_in_drop (suc place) trail there.0 e there.1; asks = refl; says = refl })

  -- so it is a show of the trail
  pub is_show : (show : Show) (deeds : List Deed) → IsFeedOf centre objects show deeds → IsSubsequence (entries_made actor centre deeds) trail → IsShowOf s trail objects show
  is_show show deeds feed sub =
      let past = shows_past 0 show deeds [] feed (subst (λ l. IsSubsequence l trail) (sym (append-nil (entries_made actor centre deeds))) sub) in
      record { place = past.place; at = past.at }

  -- ---- several feeds

  -- feeds add shows of the trail that stand there from a place on
  pub record HasAdded (least : ℕ) (old new : List Show) : Type 0 where
    pub later : List Show
    pub whole : new ≡ old ++ later
    pub are : AreShowsFrom least s trail objects later

  pub adds : (least : ℕ) (old new : List Show) (feeds : List (List Deed)) → FeedsAll centre objects old new feeds → IsSubsequence (flat_map (entries_made actor centre) feeds) (drop least trail) → HasAdded least old new
  adds least old new [] fed sub = record { later = []; whole = fed ∙ sym (append-nil old); are = tt }
  adds least old new (deeds ∷ feeds) fed sub = go (λ least sub. adds least fed.0 new feeds fed.3 sub) (either_way centre objects old fed.0 fed.1 deeds fed.2)
    where
      rest : List Entry
      rest = flat_map (entries_made actor centre) feeds

      go : ((least : ℕ) → IsSubsequence rest (drop least trail) → HasAdded least fed.0 new) → (fed.0 ≡ old) ⊎ HasShown centre objects old fed.0 fed.1 deeds → HasAdded least old new
      go later (inl same) =
          let more = later least (sub_right (entries_made actor centre deeds) rest (drop least trail) sub) in
          record { later = more.later; whole = more.whole ∙ ap (λ l. l ++ more.later) same; are = more.are }
      go later (inr one) =
          let past = shows_past least one.show deeds rest one.feed sub in
          let more = later (suc past.place) past.behind in
          record {
            later = one.show ∷ more.later;
            whole = more.whole ∙ (ap (λ l. l ++ more.later) one.shows ∙ append_assoc old (one.show ∷ []) more.later);
            are = (past.place, past.low, past.at, more.are);
          }
