-- What the feeds of the operator add to the shows of a centre, step by step.
use Rattle.std.proofs.Common.{◌≡◌, ℕ, ◌+◌, ◌≤◌, inl, inr, Bool, true, false, cond, List, [], ◌∷◌, ◌++◌, Option, Some, None, refl, sym, ap, ◌∙◌, subst, arith}
use Rattle.std.specs.Prelude.{◌==◌, flat_map}
use Rattle.std.proofs.lemmas.Bool.{eqb-true}
use Rattle.std.proofs.lemmas.Grind.{flat_map-append}
use Rattle.std.proofs.lemmas.List.{map-append}
use Rattle.list_core.specs.Members.{In}
use Rattle.ids_core.specs.declared.object.ObjectId.{ObjectId}
use Rattle.dc_talk.specs.declared.log.Deed.{Deed}
use Rattle.dc_talk.specs.declared.log.Deed.TheVariants.{Told}
use Rattle.dc_talk.specs.declared.line.Line.TheVariants as line
use Rattle.dc_talk.specs.declared.log.Note.{Note}
use Rattle.dc_talk.specs.Logs.{entries_made}
use Rattle.dc_talk.proofs.Doors.{made_then}
use Rattle.script_core.specs.declared.steps.OperatorStep.{OperatorStep}
use Rattle.script_core.specs.declared.taps.Found.{Found}
use Rattle.script_core.specs.declared.taps.Found.TheVariants.{Whole, Ended}
use Rattle.script_core.specs.declared.taps.Show.{Show}
use Rattle.script_core.specs.declared.taps.TapState.{TapState}
use Rattle.script_core.specs.Feeds.{FeedDeeds, fed_of, show_in}
use Rattle.script_core.specs.Taps.{feed_in, FeedsAt, FeedsSo}
use Rattle.dc_worker.specs.Feeds.{show_found}
use Rattle.dc_worker.proofs.Feeding.{shows_found}
use Rattle.run_sections.specs.Orders.{deeds_of, InOrder, none_left, one_first}
use Rattle.run_sections.specs.Taps.{shows_then, shows_fed, FeedGoes, notes_at, shows_behind}
use Rattle.run_sections.proofs.ShowsBehind.{order_low, AgreeFrom, first_notes, later_notes}
use Rattle.read_tap.specs.Feeds.{IsShown}
use Rattle.show_law.specs.Subsequences.{IsSubsequence}
use Rattle.show_law.specs.Shows.{FeedsAll}

-- ---- subsequences

-- a list is one of itself
sub_refl : {X : Type 0} (xs : List X) → IsSubsequence xs xs
sub_refl [] = tt
sub_refl (x ∷ xs) = inl (refl, sub_refl xs)

-- one stands in a list that has more in front
sub_behind : {X : Type 0} (ys zs ws : List X) → IsSubsequence zs ws → IsSubsequence zs (ys ++ ws)
sub_behind [] zs ws sub = sub
sub_behind (y ∷ ys) [] ws sub = tt
sub_behind (y ∷ ys) (z ∷ zs) ws sub = inr (sub_behind ys (z ∷ zs) ws sub)

-- two stand one behind the other
sub_both : {X : Type 0} (xs zs ys ws : List X) → IsSubsequence xs ys → IsSubsequence zs ws → IsSubsequence (xs ++ zs) (ys ++ ws)
sub_both [] zs ys ws first second = sub_behind ys zs ws second
sub_both (x ∷ xs) zs [] ws first second = absurd first
sub_both (x ∷ xs) zs (y ∷ ys) ws (inl here) second = inl (here.0, sub_both xs zs ys ws here.1 second)
sub_both (x ∷ xs) zs (y ∷ ys) ws (inr later) second = inr (sub_both (x ∷ xs) zs ys ws later second)

-- ---- feeds

-- feeds, and others behind them
feeds_both : (i : ℕ) (objects : List ObjectId) (old between new : List Show) (first later : List (List Deed)) → FeedsAll i objects old between first → FeedsAll i objects between new later → FeedsAll i objects old new (first ++ later)
feeds_both i objects old between new [] later one two = subst (λ shows. FeedsAll i objects shows new later) one two
feeds_both i objects old between new (deeds ∷ first) later one two = (one.0, one.1, one.2, feeds_both i objects one.0 between new first later one.3 two)

-- deeds of the operator have the asks of feeds among them which add to the shows of centre i what is added to them
pub record Adds (i : ℕ) (objects : List ObjectId) (old new : List Show) (deeds : List Deed) : Type 0 where
  pub feeds : List (List Deed)
  pub all : FeedsAll i objects old new feeds
  pub part : IsSubsequence (flat_map (entries_made 1 i) feeds) (entries_made 1 i deeds)

-- without feeds nothing is added
pub adds_none : (i : ℕ) (objects : List ObjectId) (shows : List Show) (deeds : List Deed) → Adds i objects shows shows deeds
adds_none i objects shows deeds = record { feeds = []; all = refl; part = tt }

-- what some add, and others behind them
pub adds_both : (i : ℕ) (objects : List ObjectId) (old between new : List Show) (first later : List Deed) → Adds i objects old between first → Adds i objects between new later → Adds i objects old new (first ++ later)
adds_both i objects old between new first later one two = record {
  feeds = one.feeds ++ two.feeds;
  all = feeds_both i objects old between new one.feeds two.feeds one.all two.all;
  part =
      let both = sub_both (flat_map (entries_made 1 i) one.feeds) (flat_map (entries_made 1 i) two.feeds) (entries_made 1 i first) (entries_made 1 i later) one.part two.part in
      subst (λ es. IsSubsequence es (entries_made 1 i (first ++ later))) (sym (flat_map-append (entries_made 1 i) one.feeds two.feeds))
      (subst (λ es. IsSubsequence (flat_map (entries_made 1 i) one.feeds ++ flat_map (entries_made 1 i) two.feeds) es) (sym (made_then 1 i first later)) both);
}

-- ---- a step

-- the shows behind what a feed found
shown : (old : List Show) (found : Found) → IsShown old found (fed_of found) (shows_then (show_found found) old)
shown old (Whole show) = (refl, refl)
shown old (Ended fed) = (refl, refl)

-- a feed of the tap adds the show that it found
feed_adds : (i : ℕ) (objects : List ObjectId) (old : List Show) (deeds : List Deed) → FeedDeeds i objects deeds → Adds i objects old (shows_then (show_in deeds) old) deeds
feed_adds i [] old deeds feed = subst (λ (ds : List Deed). Adds i [] old (shows_then (show_in ds) old) ds) (sym feed) (adds_none i [] old [])
feed_adds i (object ∷ objects) old deeds feed =
    let all : List ObjectId = object ∷ objects in
    let told : List Deed = Told (line.Feed i (fed_of feed.found)) ∷ [] in
    let found : show_in deeds ≡ show_found feed.found = ap show_in feed.whole ∙ shows_found i all feed.found feed.asks feed.finds in
    let made : entries_made 1 i deeds ≡ entries_made 1 i feed.asks ++ [] = ap (entries_made 1 i) feed.whole ∙ made_then 1 i feed.asks told in
    let feeds : FeedsAll i all old (shows_then (show_found feed.found) old) (feed.asks ∷ []) = (shows_then (show_found feed.found) old, fed_of feed.found, record { found = feed.found; finds = feed.finds; shown = shown old feed.found }, refl) in
    subst (λ o. Adds i all old (shows_then o old) deeds) (sym found) (record {
      feeds = feed.asks ∷ [];
      all = feeds;
      part = subst (λ es. IsSubsequence (entries_made 1 i feed.asks ++ []) es) (sym made) (sub_refl (entries_made 1 i feed.asks ++ []));
    })

-- so it is of each step of the operator
step_adds : (taps : ℕ → TapState) (does : OperatorStep) (deeds : List Deed) (shows : ℕ → List Show) (i : ℕ) → FeedsSo taps does deeds → Adds i (taps i).objects (shows i) (shows_fed (feed_in does) deeds shows i) deeds
step_adds taps does deeds shows i feeds = go (feed_in does) feeds
  where
    here : (fed : ℕ) (test : Bool) → (i == fed) ≡ test → FeedDeeds fed (taps fed).objects deeds → Adds i (taps i).objects (shows i) (cond test (shows_then (show_in deeds) (shows i)) (shows i)) deeds
    here fed true is feed = feed_adds i (taps i).objects (shows i) deeds (subst (λ k. FeedDeeds k (taps k).objects deeds) (sym (eqb-true i fed is)) feed)
    here fed false is feed = adds_none i (taps i).objects (shows i) deeds

    go : (fed : Option ℕ) → FeedsAt taps deeds fed → Adds i (taps i).objects (shows i) (shows_fed fed deeds shows i) deeds
    go None feed = adds_none i (taps i).objects (shows i) deeds
    go (Some fed) feed = here fed (i == fed) refl feed

-- ---- a section

-- its steps add what stands behind them, by the notes of the section
pub order_adds : (taps : ℕ → TapState) (i section step : ℕ) (first last others : ℕ → List Show) (steps : List OperatorStep) (notes whole : List Note) → AgreeFrom step whole notes → InOrder (FeedGoes taps) section step first steps notes last → Adds i (taps i).objects (others i) (shows_behind whole step steps others i) (deeds_of notes)
order_adds taps i section step first last others [] notes whole agree none_left = adds_none i (taps i).objects (others i) []
order_adds taps i section step first last others (does ∷ steps) notes whole agree (one_first next mine later is at goes rest) =
    let low : (note : Note) → In note later → step + 1 ≤ note.step = order_low (FeedGoes taps) section (step + 1) next last steps later rest in
    let own : notes_at step whole ≡ mine = agree step (omega arith) ∙ first_notes section step notes mine later is at low in
    let more : ℕ → List Show = shows_fed (feed_in does) (deeds_of (notes_at step whole)) others in
    let end : List Show = shows_behind whole (step + 1) steps more i in
    let one : Adds i (taps i).objects (others i) (more i) (deeds_of mine) = subst (λ (ns : List Note). Adds i (taps i).objects (others i) (shows_fed (feed_in does) (deeds_of ns) others i) (deeds_of mine)) (sym own) (step_adds taps does (deeds_of mine) others i goes.0) in
    let behind : Adds i (taps i).objects (more i) end (deeds_of later) = order_adds taps i section (step + 1) next last more steps later whole (λ other past. agree other (omega (arith, past)) ∙ later_notes section step notes mine later is at low other past) rest in
    subst (Adds i (taps i).objects (others i) end) (sym (ap deeds_of is ∙ map-append (λ (note : Note). note.deed) mine later))
    (adds_both i (taps i).objects (others i) (more i) end (deeds_of mine) (deeds_of later) one behind)
