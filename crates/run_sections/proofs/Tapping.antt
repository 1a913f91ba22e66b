-- Feeds and looks by actors: what they come to in a section of one step, and in one that finds other taps which show the
-- same.
use Rattle.std.proofs.Common.{◌≡◌, ◌≢◌, ℕ, zero, suc, ◌+◌, inl, inr, ⊎_elim, Bool, true, false, cond, List, [], ◌∷◌, ◌++◌, Option, Some, None, refl, sym, ap, ◌∙◌, subst, arith}
use Rattle.std.specs.Prelude.{All, ◌==◌, slice_get}
use Rattle.std.specs.List.{cons_option}
use Rattle.std.proofs.lemmas.Bool.{cases_eq, eq-eqb, ne_eqb}
use Rattle.std.proofs.lemmas.List.{append-nil}
use Rattle.std.proofs.lemmas.Option.{none-some, same_Some}
use Rattle.list_core.specs.Choices.{when}
use Rattle.list_core.specs.Members.{In}
use Rattle.ids_core.specs.declared.object.ObjectId.{ObjectId}
use Rattle.dc_talk.specs.declared.log.Deed.{Deed}
use Rattle.dc_talk.specs.declared.log.Note.{Note}
use Rattle.script_core.specs.declared.script.Script.{Script}
use Rattle.script_core.specs.declared.taps.Show.{Show}
use Rattle.script_core.specs.declared.taps.TapState.{TapState}
use Rattle.script_core.specs.declared.steps.ClientStep.{ClientStep}
use Rattle.script_core.specs.declared.steps.ClientStep.TheVariants.{Look}
use Rattle.script_core.specs.declared.steps.OperatorStep.{OperatorStep}
use Rattle.script_core.specs.declared.steps.OperatorStep.TheVariants.{Feed}
use Rattle.script_core.specs.declared.steps.Step.TheVariants.{Client, Operator}
use Rattle.script_core.specs.declared.steps.Section.{Section}
use Rattle.script_core.specs.Feeds.{FeedDeeds, show_in}
use Rattle.script_core.specs.Rows.{section_of, IsSection}
use Rattle.script_core.specs.Scripts.{header_of}
use Rattle.script_core.specs.Steps.{IsCount, IsStep, IsOperatorStep}
use Rattle.script_core.specs.Taps.{fed_tap, feed_in, FeedsSo, taps_fed, taps_then, seen_through, looks, look_in, LooksAt, LooksSo}
use Rattle.run_book.specs.Moves.{client_steps, operator_steps}
use Rattle.run_book.specs.Played.{IsAt}
use Rattle.run_sections.specs.Orders.{deeds_of, InOrder, none_left, one_first}
use Rattle.run_sections.specs.Taps.{shows_then, shows_fed, shows_at, FeedGoes, tap_behind, LooksIn, LookGoes, Looks}
use Rattle.run_sections.specs.Sections.{Between, Left, PlaysTaps}
use Rattle.run_sections.proofs.Reaching.{client_sound, operator_sound}

-- ---- taps that show the same

-- taps that show the same at each of n centres
abbrev pub AreAs : ℕ → (ℕ → TapState) → (ℕ → TapState) → Type 0
AreAs n taps others = (i : ℕ) → IsCount n i → taps i ≡ others i

-- a look through the one is a look through the other
pub looks_as : (n client : ℕ) (taps others : ℕ → TapState) (step : ClientStep) (deeds : List Deed) → IsStep n step → AreAs n taps others → LooksSo taps client step deeds → LooksSo others client step deeds
looks_as n client taps others (Look centre object) deeds is same look = subst (λ (tap : TapState). deeds ≡ looks client centre object (seen_through tap object)) (same centre is.0) look
looks_as n client taps others _ deeds is same look = tt

-- so is a feed
pub feeds_as : (n : ℕ) (taps others : ℕ → TapState) (step : OperatorStep) (deeds : List Deed) → IsOperatorStep n step → AreAs n taps others → FeedsSo taps step deeds → FeedsSo others step deeds
feeds_as n taps others (Feed centre) deeds is same feed = subst (λ (tap : TapState). FeedDeeds centre tap.objects deeds) (same centre is) feed
feeds_as n taps others _ deeds is same feed = tt

-- and behind it they show the same
pub fed_as : (fed : Option ℕ) (deeds : List Deed) (taps others : ℕ → TapState) (i : ℕ) → taps i ≡ others i → taps_fed fed deeds taps i ≡ taps_fed fed deeds others i
fed_as None deeds taps others i same = same
fed_as (Some centre) deeds taps others i same = ap (λ (tap : TapState). cond (i == centre) (fed_tap (show_in deeds) tap) tap) same

-- ---- taps behind their shows

-- where a tap has the one show that it shows, what is found among its shows is that one
seen_first : (tap : TapState) (place : ℕ) (show : Show) → slice_get (tap.show ∷ []) place ≡ Some show → fed_tap (Some show) tap ≡ tap
seen_first tap zero show there = ap (λ (show : Show). fed_tap (Some show) tap) (sym (same_Some tap.show show there))
seen_first tap (suc place) show there = absurd (none-some show there)

-- behind what one feed found it is as fed
behind_found : (tap : TapState) (found : Option Show) → tap_behind tap (shows_then found (tap.show ∷ [])) ≡ fed_tap found tap
behind_found tap None = refl
behind_found tap (Some show) = refl

behind_fed : (fed : Option ℕ) (deeds : List Deed) (taps : ℕ → TapState) (i : ℕ) → tap_behind (taps i) (shows_fed fed deeds (shows_at taps) i) ≡ taps_fed fed deeds taps i
behind_fed None deeds taps i = refl
behind_fed (Some centre) deeds taps i = go (i == centre)
  where
    go : (own : Bool) → tap_behind (taps i) (cond own (shows_then (show_in deeds) (shows_at taps i)) (shows_at taps i)) ≡ cond own (fed_tap (show_in deeds) (taps i)) (taps i)
    go true = behind_found (taps i) (show_in deeds)
    go false = refl

-- behind one show more it shows that one
pub behind_more : (tap : TapState) (shows : List Show) (show : Show) → tap_behind tap (shows ++ show ∷ []) ≡ fed_tap (Some show) tap
behind_more tap [] show = refl
behind_more tap (first ∷ shows) show = behind_more (fed_tap (Some first) tap) shows show

-- ---- a section of one step

module _ (taps : ℕ → TapState) (number : ℕ) where
  -- where nothing is fed, the shows stay
  pub none_fed : (notes : List Note) (shows : ℕ → List Show) → InOrder (FeedGoes taps) number 1 (shows_at taps) [] notes shows → (centre : ℕ) → shows centre ≡ shows_at taps centre
  none_fed notes shows none_left centre = refl

  -- where the operator takes one step, it feeds the taps so, and they show what they do behind it
  pub one_fed : (does : OperatorStep) (notes : List Note) (shows : ℕ → List Show) → InOrder (FeedGoes taps) number 1 (shows_at taps) (does ∷ []) notes shows → FeedsSo taps does (deeds_of notes) × ((i : ℕ) → tap_behind (taps i) (shows i) ≡ taps_then does (deeds_of notes) taps i)
  one_fed does notes shows (one_first next mine later whole at goes none_left) =
      let Fed : List Note → Type 0 = λ (ns : List Note). FeedsSo taps does (deeds_of ns) × ((i : ℕ) → tap_behind (taps i) (shows i) ≡ taps_then does (deeds_of ns) taps i) in
      subst Fed (sym (whole ∙ append-nil mine)) (goes.0, λ i. ap (tap_behind (taps i)) (goes.1 i) ∙ behind_fed (feed_in does) (deeds_of mine) taps i)

  -- that is a section's order of feeds
  pub fed_one : (does : OperatorStep) (notes : List Note) → All (IsAt number 1) notes → FeedsSo taps does (deeds_of notes) → InOrder (FeedGoes taps) number 1 (shows_at taps) (does ∷ []) notes (shows_fed (feed_in does) (deeds_of notes) (shows_at taps))
  fed_one does notes at feeds =
      let later : ℕ → List Show = shows_fed (feed_in does) (deeds_of notes) (shows_at taps) in
      one_first later notes [] (sym (append-nil notes)) at (feeds, λ centre. refl) none_left

  module _ (client : ℕ) where
    -- a look sees what the tap shows, where that is its one show
    look_first : (shows : ℕ → List Show) (looked : Option (ℕ × ObjectId)) (deeds : List Deed) (places later : ℕ → ℕ) → ((centre : ℕ) → shows centre ≡ shows_at taps centre) → LooksIn taps shows client looked deeds places later → LooksAt taps client deeds looked
    look_first shows None deeds places later same look = tt
    look_first shows (Some looked) deeds places later same look =
        let there : slice_get ((taps looked.0).show ∷ []) look.place ≡ Some look.show = ap (λ (s : List Show). slice_get s look.place) (sym (same looked.0)) ∙ look.there in
        subst (λ (tap : TapState). deeds ≡ looks client looked.0 looked.1 (seen_through tap looked.1)) (seen_first (taps looked.0) look.place look.show there) look.seen

    -- so does that of the one step of a client
    pub one_looked : (shows : ℕ → List Show) (does : ClientStep) (notes : List Note) → ((centre : ℕ) → shows centre ≡ shows_at taps centre) → Looks taps shows client number (does ∷ []) notes → LooksSo taps client does (deeds_of notes)
    one_looked shows does notes same look = go look.last look.order
      where
        go : (last : ℕ → ℕ) → InOrder (LookGoes taps shows client) number 1 (λ centre. 0) (does ∷ []) notes last → LooksSo taps client does (deeds_of notes)
        go last (one_first next mine later whole at goes none_left) =
            subst (λ ns. LooksSo taps client does (deeds_of ns)) (sym (whole ∙ append-nil mine)) (look_first shows (look_in does) (deeds_of mine) (λ centre. 0) next same goes)

    -- that is a section's order of looks
    look_there : (looked : Option (ℕ × ObjectId)) (deeds : List Deed) → LooksAt taps client deeds looked → LooksIn taps (shows_at taps) client looked deeds (λ centre. 0) (λ centre. 0)
    look_there None deeds look = λ other. refl
    look_there (Some looked) deeds look = record {
      place = 0;
      show = (taps looked.0).show;
      there = refl;
      goes_on = omega arith;
      seen = look;
      then_is = λ other. first (other == looked.0);
    }
      where
        first : (own : Bool) → ◌≡◌ {A = ℕ} 0 (cond own 0 0)
        first true = refl
        first false = refl

    pub looked_one : (does : ClientStep) (notes : List Note) → All (IsAt number 1) notes → LooksSo taps client does (deeds_of notes) → Looks taps (shows_at taps) client number (does ∷ []) notes
    looked_one does notes at looked = record {
      last = λ centre. 0;
      order = one_first (λ centre. 0) notes [] (sym (append-nil notes)) at (look_there (look_in does) (deeds_of notes) looked) none_left;
    }

    -- where it takes no step, it sees nothing
    pub looked_none : (shows : ℕ → List Show) → Looks taps shows client number [] []
    looked_none shows = record { last = λ centre. 0; order = none_left }

module _ (script : Script) (number : ℕ) (old : Between) (left : Left) (new : Between) where
  -- taps where a client takes the step, and nobody else does anything
  pub look_taps : (c : ℕ) (does : ClientStep) → left.notes 1 ≡ [] → ((other : ℕ) → IsCount script.clients other → other ≢ c → left.notes (other + 1) ≡ []) → All (IsAt number 1) (left.notes (c + 1)) → LooksSo old.taps c does (deeds_of (left.notes (c + 1))) → ((i : ℕ) → IsCount script.n i → new.taps i ≡ old.taps i) → PlaysTaps script number (section_of (Client c does)) old left new
  look_taps c does operator others at looked stay = record {
    shows = shows_at old.taps;
    feeds = subst (λ ns. InOrder (FeedGoes old.taps) number 1 (shows_at old.taps) [] ns (shows_at old.taps)) (sym operator) none_left;
    looks = λ client range. ⊎_elim
        (λ (same : client ≡ c). subst (λ client. Looks old.taps (shows_at old.taps) client number (client_steps client (section_of (Client c does))) (left.notes (client + 1))) (sym same)
        (subst (λ steps. Looks old.taps (shows_at old.taps) c number steps (left.notes (c + 1))) (sym (ap (λ test. cons_option (when test does) []) (eq-eqb c c refl)))
        (looked_one old.taps number c does (left.notes (c + 1)) at looked)))
        (λ (differs : client ≢ c). subst (λ steps. Looks old.taps (shows_at old.taps) client number steps (left.notes (client + 1))) (sym (ap (λ test. cons_option (when test does) []) (ne_eqb c client (λ same. differs (sym same)))))
        (subst (λ ns. Looks old.taps (shows_at old.taps) client number [] ns) (sym (others client range differs))
        (looked_none old.taps number client (shows_at old.taps))))
        (cases_eq client c);
    behind = λ i range. stay i range;
  }

  -- taps where the operator takes it
  pub feed_taps : (does : OperatorStep) → ((client : ℕ) → IsCount script.clients client → left.notes (client + 1) ≡ []) → All (IsAt number 1) (left.notes 1) → FeedsSo old.taps does (deeds_of (left.notes 1)) → ((i : ℕ) → IsCount script.n i → new.taps i ≡ taps_then does (deeds_of (left.notes 1)) old.taps i) → PlaysTaps script number (section_of (Operator does)) old left new
  feed_taps does clients at fed behind = record {
    shows = shows;
    feeds = fed_one old.taps number does (left.notes 1) at fed;
    looks = λ client range. subst (λ ns. Looks old.taps shows client number [] ns) (sym (clients client range)) (looked_none old.taps number client shows);
    behind = λ i range. behind i range ∙ sym (behind_fed (feed_in does) (deeds_of (left.notes 1)) old.taps i);
  }
    where
      shows : ℕ → List Show
      shows = shows_fed (feed_in does) (deeds_of (left.notes 1)) (shows_at old.taps)

-- ---- a section that finds other taps which show the same

-- the feeds of a section from other shows on, with the same ones behind it at each of n centres
record FeedsAlike (n number step : ℕ) (taps : ℕ → TapState) (first last : ℕ → List Show) (steps : List OperatorStep) (notes : List Note) : Type 0 where
  pub later : ℕ → List Show
  pub order : InOrder (FeedGoes taps) number step first steps notes later
  pub same : (i : ℕ) → IsCount n i → later i ≡ last i

-- shows behind a feed of the same ones
pub shows_as : (fed : Option ℕ) (deeds : List Deed) (shows others : ℕ → List Show) (i : ℕ) → shows i ≡ others i → shows_fed fed deeds shows i ≡ shows_fed fed deeds others i
shows_as None deeds shows others i same = same
shows_as (Some centre) deeds shows others i same = ap (λ (s : List Show). cond (i == centre) (shows_then (show_in deeds) s) s) same

module _ (n number : ℕ) (one two : ℕ → TapState) (alike : AreAs n two one) where
  feeds_alike : (step : ℕ) (first second last : ℕ → List Show) (steps : List OperatorStep) (notes : List Note) → ((does : OperatorStep) → In does steps → IsOperatorStep n does) → ((i : ℕ) → IsCount n i → first i ≡ second i) → InOrder (FeedGoes two) number step second steps notes last → FeedsAlike n number step one first last steps notes
  feeds_alike step first second last [] notes sound same none_left = record { later = first; order = none_left; same = same }
  feeds_alike step first second last (does ∷ steps) notes sound same (one_first next mine more whole at goes rest) =
      let mid : ℕ → List Show = shows_fed (feed_in does) (deeds_of mine) first in
      let r = feeds_alike (step + 1) mid next last steps more (λ d there. sound d (inr there))
      (λ i range. shows_as (feed_in does) (deeds_of mine) first second i (same i range) ∙ sym (goes.1 i)) rest in
      record {
        later = r.later;
        order = one_first mid mine more whole at (feeds_as n two one does (deeds_of mine) (sound does (inl refl)) alike goes.0, λ i. refl) r.order;
        same = r.same;
      }

  module _ (client : ℕ) (shows others : ℕ → List Show) (same : (i : ℕ) → IsCount n i → shows i ≡ others i) where
    -- a look there
    look_alike : (does : ClientStep) (deeds : List Deed) (places later : ℕ → ℕ) → IsStep n does → LooksIn two others client (look_in does) deeds places later → LooksIn one shows client (look_in does) deeds places later
    look_alike (Look centre object) deeds places later is look = record {
      place = look.place;
      show = look.show;
      there = ap (λ (s : List Show). slice_get s look.place) (same centre is.0) ∙ look.there;
      goes_on = look.goes_on;
      seen = subst (λ (tap : TapState). deeds ≡ looks client centre object (seen_through (fed_tap (Some look.show) tap) object)) (alike centre is.0) look.seen;
      then_is = look.then_is;
    }
    look_alike _ deeds places later is look = look

    -- looks, one after another
    looks_alike : (step : ℕ) (places last : ℕ → ℕ) (steps : List ClientStep) (notes : List Note) → ((does : ClientStep) → In does steps → IsStep n does) → InOrder (LookGoes two others client) number step places steps notes last → InOrder (LookGoes one shows client) number step places steps notes last
    looks_alike step places last [] notes sound none_left = none_left
    looks_alike step places last (does ∷ steps) notes sound (one_first next mine more whole at goes rest) =
        one_first next mine more whole at (look_alike does (deeds_of mine) places next (sound does (inl refl)) goes) (looks_alike (step + 1) next last steps more (λ d there. sound d (inr there)) rest)

-- what a section does with taps is the same from there on
pub taps_alike : (script : Script) (number : ℕ) (section : Section) (one two new : Between) (left : Left) → IsSection (header_of script) section → AreAs script.n two.taps one.taps → PlaysTaps script number section two left new → PlaysTaps script number section one left new
taps_alike script number section one two new left sound alike plays =
    let f = feeds_alike script.n number one.taps two.taps alike 1 (shows_at one.taps) (shows_at two.taps) plays.shows (operator_steps section) (left.notes 1) (operator_sound script section sound)
    (λ i range. ap (λ (tap : TapState). tap.show ∷ []) (sym (alike i range))) plays.feeds in
    record {
      shows = f.later;
      feeds = f.order;
      looks = λ client range. record {
        last = (plays.looks client range).last;
        order = looks_alike script.n number one.taps two.taps alike client f.later plays.shows f.same 1 (λ centre. 0) (plays.looks client range).last (client_steps client section) (left.notes (client + 1)) (client_sound script section sound client) (plays.looks client range).order;
      };
      behind = λ i range. plays.behind i range ∙ (λ k. tap_behind (alike i range k) (sym (f.same i range) k));
    }
