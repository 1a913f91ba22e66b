-- Taps that were read, and the steps that feed them and look through them.
use Rattle.std.proofs.Common.{◌≡◌, ◌≢◌, ℕ, Bool, true, false, inl, inr, ⊎_elim, List, [], ◌∷◌, ◌++◌, length, refl, ap, sym, ◌∙◌, subst, arith}
use Rattle.std.specs.Prelude.{◌==◌, ◌&&◌, ◌||◌, not, nat_lt, Option, Some, None, is_some, is_none, IfSome}
use Rattle.std.specs.List.{cons_option}
use Rattle.std.proofs.lemmas.Bool.{false≢true, eq-eqb, ltb-true, not-true, or_cases, and_from}
use Rattle.std.proofs.lemmas.List.{length_push}
use Rattle.std.proofs.lemmas.List.Elements.{All-nil, All-push}
use Rattle.list_core.specs.Choices.{when}
use Rattle.list_core.specs.Members.{In}
use Rattle.list_core.proofs.Members.{In_more}
use Rattle.ids_core.specs.Ids.{same_object}
use Rattle.ids_core.specs.Name.{IsName}
use Rattle.ids_core.specs.Same.{same_object-true, same_object-itself}
use Rattle.ids_core.specs.declared.object.ObjectId.{ObjectId}
use Rattle.script_core.specs.Steps.{IsCount}
use Rattle.script_core.specs.Taps.{AreOnce, AreTaps, IsOnTap, objects_on}
use Rattle.script_core.specs.declared.script.Header.{Header}
use Rattle.script_core.specs.declared.steps.ClientStep.TheVariants.{Look}
use Rattle.script_core.specs.declared.steps.OperatorStep.TheVariants.{Feed}
use Rattle.script_core.specs.declared.steps.Step.{Step}
use Rattle.script_core.specs.declared.steps.Step.TheVariants.{Client, Operator}
use Rattle.script_core.specs.declared.taps.Tapped.{Tapped}
use Rattle.script_core.specs.declared.taps.TheConstants.{MOST_TAPPED}
use Rattle.script_reader.specs.Taps.{has_tap, is_on_tap, shows}

-- ---- steps on taps

-- an object that the tap of a centre shows is one of its objects
shown_there : (taps : List Tapped) (centre : ℕ) (object : ObjectId) → shows taps centre object ≡ true → In object (objects_on taps centre)
shown_there [] centre object is = absurd (false≢true is)
shown_there (tapped ∷ taps) centre object is = go (tapped.centre == centre) (same_object tapped.object object) refl is (shown_there taps centre object)
  where
    go : (here same : Bool) → same_object tapped.object object ≡ same → ((here && same) || shows taps centre object) ≡ true → (shows taps centre object ≡ true → In object (objects_on taps centre)) → In object (cons_option (when here tapped.object) (objects_on taps centre))
    go true true s is later = inl (sym (same_object-true tapped.object object s))
    go true false s is later = inr (later is)
    go false same s is later = later is

-- a centre with a tap has objects on it
tap_there : (taps : List Tapped) (centre : ℕ) → has_tap taps centre ≡ true → objects_on taps centre ≢ []
tap_there [] centre is none = false≢true is
tap_there (tapped ∷ taps) centre is none = go (tapped.centre == centre) is none (tap_there taps centre)
  where
    go : (here : Bool) → (here || has_tap taps centre) ≡ true → cons_option (when here tapped.object) (objects_on taps centre) ≡ [] → (has_tap taps centre ≡ true → objects_on taps centre ≢ []) → ⊥
    go true is none later = cc
    go false is none later = later is none

-- a step that is found on a tap is on one
on_tap : (taps : List Tapped) (step : Step) → is_on_tap taps step ≡ true → IsOnTap taps step
on_tap taps (Client client (Look centre object)) is = shown_there taps centre object is
on_tap taps (Client client step) is = tt
on_tap taps (Operator (Feed centre)) is = tap_there taps centre is
on_tap taps (Operator step) is = tt

-- behind a header it is
pub step_on : (header : Option Header) (taps : List Tapped) (step : Step) → is_some header ≡ true → (is_on_tap taps step || is_none header) ≡ true → IsOnTap taps step
step_on None taps step some on = absurd (false≢true some)
step_on (Some h) taps step some on = ⊎_elim (λ is. on_tap taps step is) (λ bad. absurd (false≢true bad)) (or_cases (is_on_tap taps step) false on)

-- ---- one object more

-- what stands among taps is shown
among_shown : (taps : List Tapped) (tapped : Tapped) → In tapped taps → shows taps tapped.centre tapped.object ≡ true
among_shown [] tapped there = absurd there
among_shown (first ∷ taps) tapped (inl same) = subst (λ (one : Tapped). ((one.centre == tapped.centre && same_object one.object tapped.object) || shows taps tapped.centre tapped.object) ≡ true) same (ap (λ b. b || shows taps tapped.centre tapped.object) (and_from _ _ (eq-eqb tapped.centre tapped.centre refl) (same_object-itself tapped.object)))
among_shown (first ∷ taps) tapped (inr there) = go (first.centre == tapped.centre && same_object first.object tapped.object) (among_shown taps tapped there)
  where
    go : (b : Bool) → shows taps tapped.centre tapped.object ≡ true → (b || shows taps tapped.centre tapped.object) ≡ true
    go true is = refl
    go false is = is

-- none stands there twice with one more that is not shown
once_more : (taps : List Tapped) (tapped : Tapped) → (In tapped taps → ⊥) → AreOnce taps → AreOnce (taps ++ tapped ∷ [])
once_more [] tapped new once = ((λ there. there), tt)
once_more (first ∷ taps) tapped new once = (λ there. ⊎_elim (λ earlier. once.0 earlier) (λ same. new (inl (sym same))) (In_more taps tapped first there), once_more taps tapped (λ there. new (inr there)) once.1)

-- ---- the taps of a script

-- the taps are those of a script with this header; before one there are none
abbrev pub AreTapsOf : Option Header → List Tapped → Type 0
AreTapsOf None taps = taps ≡ []
AreTapsOf (Some h) taps = AreTaps h.n taps

-- an object on a tap of a script with this header
abbrev pub IsTapOf : Header → Tapped → Type 0
IsTapOf h tapped = IsCount h.n tapped.centre × IsName tapped.object.name

no_taps : (h : Header) → AreTaps h.n []
no_taps h = record { few = omega arith; each = All-nil (IsTapOf h); once = tt }

-- where none were there, none are behind a header
pub taps_headed : (old new : Option Header) (taps : List Tapped) → old ≡ None → AreTapsOf old taps → AreTapsOf new taps
taps_headed old new taps none are = go new (subst (λ h. AreTapsOf h taps) none are)
  where
    go : (h : Option Header) → taps ≡ [] → AreTapsOf h taps
    go None empty = empty
    go (Some h) empty = subst (AreTaps h.n) (sym empty) (no_taps h)

-- one more, where there are few, and it is not shown yet
pub tap_more : (header : Option Header) (taps : List Tapped) (tapped : Tapped) → is_some header ≡ true → AreTapsOf header taps → IfSome header (λ h. IsTapOf h tapped) → nat_lt (length taps) MOST_TAPPED ≡ true → not (shows taps tapped.centre tapped.object) ≡ true → AreTapsOf header (taps ++ tapped ∷ [])
tap_more None taps tapped some are is few new = absurd (false≢true some)
tap_more (Some h) taps tapped some are is few new = record {
  few = let less = ltb-true (length taps) MOST_TAPPED few in omega (arith, length_push taps tapped);
  each = All-push (IsTapOf h) taps tapped are.each is;
  once = once_more taps tapped (λ there. false≢true (sym (not-true _ new) ∙ among_shown taps tapped there)) are.once;
}
