-- What a look through a tap sees, and steps that look.
use Rattle.std.proofs.Common.{◌≡◌, ◌≤◌, ◌<◌, ℕ, zero, suc, ◌+◌, false, cond, drop, List, [], ◌∷◌, length, get_or, Option, Some, None, refl, sym, ap, ◌∙◌, subst, arith}
use Rattle.std.specs.Option.{option_map}
use Rattle.std.proofs.lemmas.Option.{none-some, same_Some}
use Rattle.ids_core.specs.declared.object.ObjectId.{ObjectId}
use Rattle.ids_core.specs.Ids.{same_object}
use Rattle.tx_core.specs.declared.state.State.{State}
use Rattle.dc_talk.specs.declared.line.Line.TheVariants as line
use Rattle.dc_talk.specs.declared.log.Deed.{Deed}
use Rattle.dc_talk.specs.declared.seen.Seen.{Seen}
use Rattle.dc_talk.specs.Logs.{Logged}
use Rattle.dc_talk.specs.Acting.{noted_all}
use Rattle.script_core.specs.declared.taps.TapState.{TapState}
use Rattle.script_core.specs.declared.steps.ClientStep.{ClientStep}
use Rattle.script_core.specs.declared.steps.ClientStep.TheVariants.{Look}
use Rattle.script_core.specs.Steps.{IsStep}
use Rattle.script_core.specs.Deeds.{told, armed_after}
use Rattle.script_core.specs.Taps.{state_shown, seen_through, looks, look_in, LooksAt}
use Rattle.client_stub.specs.Playing.{Playing, Grows, Takes}
use Rattle.client_stub.proofs.Growth.{grows_told}
use Rattle.run_table.specs.Taps.{taps_of, TakesWith}

-- ---- the state of an object

-- where no state is shown there is none of an object
none_shown : (objects : List ObjectId) (object : ObjectId) → state_shown objects [] object ≡ None
none_shown [] object = refl
none_shown (first ∷ objects) object = refl

-- where another stands it is passed over
passed : (objects : List ObjectId) (states : List State) (object d : ObjectId) (place : ℕ) → place < length objects → same_object (get_or objects place d) object ≡ false → state_shown (drop place objects) (drop place states) object ≡ state_shown (drop (suc place) objects) (drop (suc place) states) object
passed [] states object d place within differs = absurd (omega (arith, within))
passed (first ∷ objects) [] object d zero within differs = sym (none_shown objects object)
passed (first ∷ objects) (state ∷ states) object d zero within differs = ap (λ test. cond test (Some state) (state_shown objects states object)) differs
passed (first ∷ objects) [] object d (suc place) within differs = none_shown (drop place objects) object ∙ sym (none_shown (drop (suc place) objects) object)
passed (first ∷ objects) (state ∷ states) object d (suc place) within differs = passed objects states object d place (omega (arith, within)) differs

pub shown_later : (objects : List ObjectId) (states : List State) (object d : ObjectId) (place : ℕ) → place < length objects → same_object (get_or objects place d) object ≡ false → state_shown (drop place objects) (drop place states) object ≡ state_shown (drop (place + 1) objects) (drop (place + 1) states) object
shown_later objects states object d place within differs =
    let next : suc place ≡ place + 1 = omega arith in
    subst (λ next. state_shown (drop place objects) (drop place states) object ≡ state_shown (drop next objects) (drop next states) object) next (passed objects states object d place within differs)

-- ---- steps

-- a step that looks at an object through the tap of a centre
pub is_look : (step : ClientStep) (centre : ℕ) (object : ObjectId) → Some (centre, object) ≡ look_in step → step ≡ Look centre object
is_look (Look other one) centre object is =
    let same : (other, one) ≡ (centre, object) = same_Some (other, one) (centre, object) (sym is) in
    λ k. Look (same k).0 (same k).1
is_look _ centre object is = absurd (none-some (centre, object) (sym is))

-- its centre is one of those that there are
pub look_within : (n centre : ℕ) (object : ObjectId) (step : ClientStep) → Some (centre, object) ≡ look_in step → IsStep n step → 1 ≤ centre
look_within n centre object step is fits = let fit : IsStep n (Look centre object) = subst (IsStep n) (is_look step centre object is) fits in fit.0.0

-- the deeds of a look are a line, where there is one
pub told_seen : (client centre : ℕ) (object : ObjectId) (seen : Option Seen) → told (option_map (line.Look client centre object) seen) ≡ looks client centre object seen
told_seen client centre object None = refl
told_seen client centre object (Some seen) = refl

-- it takes the client's step
pub step_looked : (taps : List TapState) (step : ClientStep) (p : Playing) (later : Logged) (client centre : ℕ) (object : ObjectId) → Some (centre, object) ≡ look_in step → client ≡ p.client.client → later ≡ noted_all p.log (looks client centre object (seen_through (taps_of taps centre) object)) → TakesWith taps step p (record p { log = later })
step_looked taps step p later client centre object is same log =
    let seen : Option Seen = seen_through (taps_of taps centre) object in
    let deeds : List Deed = looks p.client.client centre object seen in
    let grown : Grows p (record p { log = noted_all p.log deeds }) deeds = subst (λ deeds. Grows p (record p { log = noted_all p.log deeds }) deeds) (told_seen p.client.client centre object seen) (grows_told p (option_map (line.Look p.client.client centre object) seen)) in
    let here : later ≡ noted_all p.log deeds = log ∙ ap (λ client. noted_all p.log (looks client centre object seen)) same in
    subst (λ step. TakesWith taps step p (record p { log = later })) (sym (is_look step centre object is))
    (subst (λ (log : Logged). TakesWith taps (Look centre object) p (record p { log = log })) (sym here)
    (record {
      takes = record { deeds = deeds; such = (seen, refl); grows = grown; armed = armed seen };
      looks = refl;
    }))
  where
    armed : (seen : Option Seen) → p.armed ≡ armed_after p.armed (Look centre object) (looks p.client.client centre object seen)
    armed None = refl
    armed (Some seen) = refl

-- a step that does not look through a tap sees nothing there
pub step_other : (taps : List TapState) (step : ClientStep) (p q : Playing) → None ≡ look_in step → Takes step p q → TakesWith taps step p q
step_other taps step p q none takes = record { takes = takes; looks = subst (LooksAt (taps_of taps) p.client.client takes.deeds) none tt }
