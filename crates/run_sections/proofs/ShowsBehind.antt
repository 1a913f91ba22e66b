-- The shows behind the feeds of a section, by what the operator noted in it.
use Rattle.std.proofs.Common.{◌≡◌, ℕ, ◌+◌, ◌≤◌, ⊎_elim, Bool, true, false, List, [], ◌∷◌, ◌++◌, Option, Some, None, refl, sym, ap, ◌∙◌, subst, append_assoc, arith}
use Rattle.std.specs.Prelude.{All, ◌==◌, cond}
use Rattle.std.proofs.lemmas.Bool.{eq-eqb, ne_eqb}
use Rattle.std.proofs.lemmas.List.{append-nil}
use Rattle.std.proofs.lemmas.List.Elements.{filter-append}
use Rattle.list_core.specs.Members.{In}
use Rattle.list_core.proofs.Members.{All-In, In_either, filter_all, filter_none}
use Rattle.dc_talk.specs.declared.log.Deed.{Deed}
use Rattle.dc_talk.specs.declared.log.Note.{Note}
use Rattle.script_core.specs.declared.taps.Show.{Show}
use Rattle.script_core.specs.declared.taps.TapState.{TapState}
use Rattle.script_core.specs.declared.steps.OperatorStep.{OperatorStep}
use Rattle.script_core.specs.Feeds.{show_in}
use Rattle.script_core.specs.Taps.{fed_tap, feed_in}
use Rattle.run_book.specs.Played.{IsAt}
use Rattle.run_sections.specs.Orders.{deeds_of, InOrder, none_left, one_first}
use Rattle.run_sections.specs.Taps.{shows_then, shows_fed, shows_at, FeedGoes, tap_behind, notes_at, shows_behind}
use Rattle.run_sections.proofs.Tapping.{shows_as}

-- ---- the numbers of steps

-- what is done from a step on is noted there or later
pub order_low : {S M : Type 0} (Does : S → ℕ → M → List Note → S → Type 0) (section step : ℕ) (s last : S) (ms : List M) (notes : List Note) → InOrder Does section step s ms notes last → (note : Note) → In note notes → step ≤ note.step
order_low Does section step s last [] notes none_left note there = absurd there
order_low Does section step s last (m ∷ ms) notes (one_first next mine later whole at does rest) note there = ⊎_elim
    (λ front. let is : note.step ≡ step = (All-In (IsAt section step) mine note at front).step_is in omega (arith, is))
    (λ back. let low = order_low Does section (step + 1) next last ms later rest note back in omega (arith, low))
    (In_either mine later note (subst (In note) whole there))

-- two lists of notes that agree from a step on
abbrev pub AgreeFrom : ℕ → List Note → List Note → Type 0
AgreeFrom step whole notes = (at : ℕ) → step ≤ at → notes_at at whole ≡ notes_at at notes

-- the notes of the first step are its own, and behind it they agree with the later ones
module _ (section step : ℕ) (notes mine later : List Note) (whole : notes ≡ mine ++ later) (here : All (IsAt section step) mine) (behind : (note : Note) → In note later → step + 1 ≤ note.step) where
  pub first_notes : notes_at step notes ≡ mine
  first_notes =
      let own : notes_at step mine ≡ mine = filter_all (λ (note : Note). note.step == step) mine (λ note there. eq-eqb note.step step (All-In (IsAt section step) mine note here there).step_is) in
      let none : notes_at step later ≡ [] = filter_none (λ (note : Note). note.step == step) later (λ note there. ne_eqb note.step step (λ same. (let low = behind note there in omega (arith, low, same)))) in
      ap (notes_at step) whole ∙ (filter-append (λ (note : Note). note.step == step) mine later ∙ ((λ i. own i ++ none i) ∙ append-nil mine))

  pub later_notes : (at : ℕ) → step + 1 ≤ at → notes_at at notes ≡ notes_at at later
  later_notes at past =
      let none : notes_at at mine ≡ [] = filter_none (λ (note : Note). note.step == at) mine (λ note there. ne_eqb note.step at (λ same. (let is : note.step ≡ step = (All-In (IsAt section step) mine note here there).step_is in omega (arith, past, is, same)))) in
      ap (notes_at at) whole ∙ (filter-append (λ (note : Note). note.step == at) mine later ∙ ap (λ ns. ns ++ notes_at at later) none)

-- ---- the shows

-- the shows behind feeds are those that the operator's notes say
pub feeds_say : (taps : ℕ → TapState) (section step : ℕ) (shows others last : ℕ → List Show) (steps : List OperatorStep) (notes whole : List Note) → ((i : ℕ) → shows i ≡ others i) → AgreeFrom step whole notes → InOrder (FeedGoes taps) section step shows steps notes last → (i : ℕ) → last i ≡ shows_behind whole step steps others i
feeds_say taps section step shows others last [] notes whole same agree none_left i = same i
feeds_say taps section step shows others last (does ∷ steps) notes whole same agree (one_first next mine later is at goes rest) i =
    let low : (note : Note) → In note later → step + 1 ≤ note.step = order_low (FeedGoes taps) section (step + 1) next last steps later rest in
    let own : notes_at step whole ≡ mine = agree step (omega arith) ∙ first_notes section step notes mine later is at low in
    let more : ℕ → List Show = shows_fed (feed_in does) (deeds_of (notes_at step whole)) others in
    feeds_say taps section (step + 1) next more last steps later whole
    (λ j. goes.1 j ∙ (ap (λ ns. shows_fed (feed_in does) (deeds_of ns) shows j) (sym own) ∙ shows_as (feed_in does) (deeds_of (notes_at step whole)) shows others j (same j)))
    (λ other past. agree other (omega (arith, past)) ∙ later_notes section step notes mine later is at low other past)
    rest i

-- shows that were there before stay in front
fed_front : (fed : Option ℕ) (deeds : List Deed) (front shows : ℕ → List Show) (i : ℕ) → shows_fed fed deeds (λ j. front j ++ shows j) i ≡ front i ++ shows_fed fed deeds shows i
fed_front None deeds front shows i = refl
fed_front (Some fed) deeds front shows i = go (i == fed) (show_in deeds)
  where
    go : (own : Bool) (found : Option Show) → cond own (shows_then found (front i ++ shows i)) (front i ++ shows i) ≡ front i ++ cond own (shows_then found (shows i)) (shows i)
    go true None = refl
    go true (Some show) = append_assoc (front i) (shows i) (show ∷ [])
    go false found = refl

pub behind_front : (notes : List Note) (step : ℕ) (steps : List OperatorStep) (all front shows : ℕ → List Show) (i : ℕ) → all i ≡ front i ++ shows i → shows_behind notes step steps all i ≡ front i ++ shows_behind notes step steps shows i
behind_front notes step [] all front shows i same = same
behind_front notes step (does ∷ steps) all front shows i same =
    let deeds : List Deed = deeds_of (notes_at step notes) in
    behind_front notes (step + 1) steps (shows_fed (feed_in does) deeds all) front (shows_fed (feed_in does) deeds shows) i
    (shows_as (feed_in does) deeds all (λ j. front j ++ shows j) i same ∙ fed_front (feed_in does) deeds front shows i)

-- shows behind feeds of shows that are the same at a centre are the same there
pub behind_as : (notes : List Note) (step : ℕ) (steps : List OperatorStep) (shows others : ℕ → List Show) (i : ℕ) → shows i ≡ others i → shows_behind notes step steps shows i ≡ shows_behind notes step steps others i
behind_as notes step [] shows others i same = same
behind_as notes step (does ∷ steps) shows others i same =
    let deeds : List Deed = deeds_of (notes_at step notes) in
    behind_as notes (step + 1) steps (shows_fed (feed_in does) deeds shows) (shows_fed (feed_in does) deeds others) i (shows_as (feed_in does) deeds shows others i same)

-- ---- a section's shows

-- shows grow
pub record Grows (shows last : List Show) : Type 0 where
  pub more : List Show
  pub last_is : last ≡ shows ++ more

fed_grows : (fed : Option ℕ) (deeds : List Deed) (shows : ℕ → List Show) (i : ℕ) → Grows (shows i) (shows_fed fed deeds shows i)
fed_grows None deeds shows i = record { more = []; last_is = sym (append-nil (shows i)) }
fed_grows (Some fed) deeds shows i = go (i == fed) (show_in deeds)
  where
    go : (own : Bool) (found : Option Show) → Grows (shows i) (cond own (shows_then found (shows i)) (shows i))
    go true None = record { more = []; last_is = sym (append-nil (shows i)) }
    go true (Some show) = record { more = show ∷ []; last_is = refl }
    go false found = record { more = []; last_is = sym (append-nil (shows i)) }

pub feeds_grow : (taps : ℕ → TapState) (section step : ℕ) (shows last : ℕ → List Show) (steps : List OperatorStep) (notes : List Note) → InOrder (FeedGoes taps) section step shows steps notes last → (i : ℕ) → Grows (shows i) (last i)
feeds_grow taps section step shows last [] notes none_left i = record { more = []; last_is = sym (append-nil (shows i)) }
feeds_grow taps section step shows last (does ∷ steps) notes (one_first next mine later whole at goes rest) i =
    let one = fed_grows (feed_in does) (deeds_of mine) shows i in
    let all = feeds_grow taps section (step + 1) next last steps later rest i in
    record {
      more = one.more ++ all.more;
      last_is = all.last_is ∙ (ap (λ l. l ++ all.more) (goes.1 i ∙ one.last_is) ∙ append_assoc (shows i) one.more all.more);
    }

-- the last of some shows is what a tap shows behind them
pub record EndsWith (tap : TapState) (shows : List Show) : Type 0 where
  pub front : List Show
  pub shows_are : shows ≡ front ++ (tap_behind tap shows).show ∷ []

ends_with : (tap : TapState) (first : Show) (more : List Show) → EndsWith tap (first ∷ more)
ends_with tap first [] = record { front = []; shows_are = refl }
ends_with tap first (next ∷ more) =
    let end = ends_with (fed_tap (Some first) tap) next more in
    record { front = first ∷ end.front; shows_are = ap (λ l. first ∷ l) end.shows_are }

-- so it is of the shows of a section
pub section_ends : (taps : ℕ → TapState) (section : ℕ) (last : ℕ → List Show) (steps : List OperatorStep) (notes : List Note) → InOrder (FeedGoes taps) section 1 (shows_at taps) steps notes last → (i : ℕ) → EndsWith (taps i) (last i)
section_ends taps section last steps notes order i =
    let grown = feeds_grow taps section 1 (shows_at taps) last steps notes order i in
    subst (EndsWith (taps i)) (sym grown.last_is) (ends_with (taps i) (taps i).show grown.more)

-- a tap keeps its objects
pub objects_stay : (tap : TapState) (shows : List Show) → (tap_behind tap shows).objects ≡ tap.objects
objects_stay tap [] = refl
objects_stay tap (show ∷ shows) = objects_stay (fed_tap (Some show) tap) shows
