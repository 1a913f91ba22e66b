-- Taps show a state of each of their objects, whatever is fed.
use Rattle.std.proofs.Common.{◌≡◌, ◌==◌, ℕ, suc, ◌+◌, Bool, true, false, cond, List, [], ◌∷◌, ◌++◌, map, length, Option, Some, None, refl, sym, ap, ◌∙◌, subst}
use Rattle.std.specs.Prelude.{All}
use Rattle.std.proofs.lemmas.Bool.{eqb-true}
use Rattle.std.proofs.lemmas.List.{length-map}
use Rattle.std.proofs.lemmas.List.Elements.{All-nil, All-cons, All-head, All-tail, All-append}
use Rattle.std.proofs.lemmas.Option.{none-some, same_Some}
use Rattle.ids_core.specs.declared.object.ObjectId.{ObjectId}
use Rattle.tx_core.specs.States.{empty_of}
use Rattle.dc_talk.specs.declared.log.Deed.{Deed}
use Rattle.dc_talk.specs.declared.log.Note.{Note}
use Rattle.script_core.specs.declared.script.Script.{Script}
use Rattle.script_core.specs.declared.taps.Show.{Show}
use Rattle.script_core.specs.declared.taps.TapState.{TapState}
use Rattle.script_core.specs.declared.taps.Found.{Found}
use Rattle.script_core.specs.declared.taps.Found.TheVariants.{Whole, Ended}
use Rattle.script_core.specs.declared.steps.OperatorStep.{OperatorStep}
use Rattle.script_core.specs.declared.steps.Section.{Section}
use Rattle.script_core.specs.Feeds.{Finds, FeedDeeds, show_in}
use Rattle.script_core.specs.Steps.{IsCount}
use Rattle.script_core.specs.Taps.{objects_on, first_tap, fed_tap, feed_in, FeedsAt}
use Rattle.dc_worker.specs.Feeds.{show_found}
use Rattle.dc_worker.proofs.Feeding.{shows_found}
use Rattle.read_tap.proofs.Feeding.{wide_after}
use Rattle.run_book.specs.Moves.{operator_steps}
use Rattle.run_sections.specs.Orders.{deeds_of, InOrder, none_left, one_first}
use Rattle.run_sections.specs.Taps.{shows_then, shows_fed, shows_at, FeedGoes, tap_behind}
use Rattle.run_sections.specs.Sections.{Between, first_between, Left, PlaysTaps}
use Rattle.run_sections.specs.Runs.{PlaysSections, no_sections, next_section}
use Rattle.thread_run.specs.Taps.{IsWide}

-- each of these shows has a state of each object
abbrev AreWideShows : TapState → List Show → Type 0
AreWideShows tap shows = All (λ (show : Show). length show.states ≡ length tap.objects) shows

-- what a feed found has one of each of its objects
wide_found : (centre : ℕ) (objects : List ObjectId) (deeds : List Deed) (show : Show) → FeedDeeds centre objects deeds → show_in deeds ≡ Some show → length show.states ≡ length objects
wide_found centre [] deeds show feeds there = absurd (none-some show (sym (ap show_in feeds) ∙ there))
wide_found centre (object ∷ objects) deeds show feeds there = go feeds.found feeds.finds (sym (shows_found centre (object ∷ objects) feeds.found feeds.asks feeds.finds) ∙ (sym (ap show_in feeds.whole) ∙ there))
  where
    go : (found : Found) → Finds centre (object ∷ objects) found feeds.asks → show_found found ≡ Some show → length show.states ≡ length (object ∷ objects)
    go (Whole other) finds is = subst (λ (show : Show). length show.states ≡ length (object ∷ objects)) (same_Some other show is) (wide_after centre (object ∷ objects) other finds.answer finds.later finds.follows)
    go (Ended end) finds is = absurd (none-some show is)

module _ (taps : ℕ → TapState) where
  -- so are the shows of a tap behind a feed
  wide_fed : (fed : Option ℕ) (deeds : List Deed) (shows : ℕ → List Show) (i : ℕ) → FeedsAt taps deeds fed → AreWideShows (taps i) (shows i) → AreWideShows (taps i) (shows_fed fed deeds shows i)
  wide_fed None deeds shows i feeds wide = wide
  wide_fed (Some centre) deeds shows i feeds wide = go (i == centre) refl
    where
      more : (found : Option Show) → show_in deeds ≡ found → FeedDeeds i (taps i).objects deeds → AreWideShows (taps i) (shows_then found (shows i))
      more None is feeds = wide
      more (Some show) is feeds = All-append (λ (show : Show). length show.states ≡ length (taps i).objects) (shows i) (show ∷ []) wide (All-cons (λ (show : Show). length show.states ≡ length (taps i).objects) show [] (wide_found i (taps i).objects deeds show feeds is) (All-nil (λ (show : Show). length show.states ≡ length (taps i).objects)))

      go : (test : Bool) → (i == centre) ≡ test → AreWideShows (taps i) (cond test (shows_then (show_in deeds) (shows i)) (shows i))
      go true is = more (show_in deeds) refl (subst (λ k. FeedDeeds k (taps k).objects deeds) (sym (eqb-true i centre is)) feeds)
      go false is = wide

  -- and behind all feeds of a section
  wide_order : (number step : ℕ) (shows last : ℕ → List Show) (steps : List OperatorStep) (notes : List Note) (i : ℕ) → InOrder (FeedGoes taps) number step shows steps notes last → AreWideShows (taps i) (shows i) → AreWideShows (taps i) (last i)
  wide_order number step shows last [] notes i none_left wide = wide
  wide_order number step shows last (does ∷ steps) notes i (one_first next mine later whole at goes rest) wide =
      wide_order number (step + 1) next last steps later i rest
      (subst (AreWideShows (taps i)) (sym (goes.1 i)) (wide_fed (feed_in does) (deeds_of mine) shows i goes.0 wide))

-- a tap behind them is wide
wide_behind : (tap : TapState) (shows : List Show) → IsWide tap → AreWideShows tap shows → IsWide (tap_behind tap shows)
wide_behind tap [] wide all = wide
wide_behind tap (show ∷ shows) wide all = wide_behind (fed_tap (Some show) tap) shows (All-head (λ (show : Show). length show.states ≡ length tap.objects) show shows all) (All-tail (λ (show : Show). length show.states ≡ length tap.objects) show shows all)

-- so is each behind a section
wide_section : (script : Script) (number : ℕ) (section : Section) (old : Between) (left : Left) (new : Between) (i : ℕ) → IsCount script.n i → PlaysTaps script number section old left new → IsWide (old.taps i) → IsWide (new.taps i)
wide_section script number section old left new i range plays wide =
    let one : AreWideShows (old.taps i) (shows_at old.taps i) = All-cons (λ (show : Show). length show.states ≡ length (old.taps i).objects) (old.taps i).show [] wide (All-nil (λ (show : Show). length show.states ≡ length (old.taps i).objects)) in
    subst IsWide (sym (plays.behind i range)) (wide_behind (old.taps i) (plays.shows i) wide (wide_order old.taps number 1 (shows_at old.taps) plays.shows (operator_steps section) (left.notes 1) i plays.feeds one))

-- and behind several
pub wide_sections : (script : Script) (number : ℕ) (old last : Between) (sections : List Section) (lefts : List Left) (i : ℕ) → IsCount script.n i → PlaysSections script number old sections lefts last → IsWide (old.taps i) → IsWide (last.taps i)
wide_sections script number old last [] lefts i range no_sections wide = wide
wide_sections script number old last (section ∷ sections) lefts i range (next_section {left = left} {lefts = later} new plays rest) wide =
    wide_sections script (number + 1) new last sections later i range rest (wide_section script number section old left new i range plays.taps wide)

-- each is at first
pub wide_first : (script : Script) (i : ℕ) → IsWide ((first_between script).taps i)
wide_first script i = length-map (objects_on script.taps i) (λ (object : ObjectId). empty_of object.sort)
