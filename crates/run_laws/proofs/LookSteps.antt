-- What a step of a client sees through a tap, and that a step that is no look tells none.
use Rattle.std.proofs.Common.{◌≡◌, ℕ, List, [], Option, Some, None, refl, sym, ap, ◌∙◌, subst}
use Rattle.std.specs.Prelude.{All}
use Rattle.std.proofs.lemmas.List.Elements.{All-nil, All-cons}
use Rattle.std.proofs.lemmas.Option.{none-some}
use Rattle.ids_core.specs.declared.object.ObjectId.{ObjectId}
use Rattle.dc_talk.specs.declared.ask.Ask.{Ask}
use Rattle.dc_talk.specs.declared.calls.Call.{Call}
use Rattle.dc_talk.specs.declared.calls.Outcome.{Outcome}
use Rattle.dc_talk.specs.declared.log.Deed.{Deed}
use Rattle.dc_talk.specs.declared.log.Deed.TheVariants.{Did, Asked, Told}
use Rattle.dc_talk.specs.declared.log.Fate.{Fate}
use Rattle.dc_talk.specs.declared.line.Line.{Line}
use Rattle.dc_talk.specs.declared.line.Line.TheVariants as line
use Rattle.dc_talk.specs.declared.seen.Seen.{Seen}
use Rattle.script_core.specs.declared.steps.ClientStep.{ClientStep}
use Rattle.script_core.specs.declared.steps.ClientStep.TheVariants.{Look}
use Rattle.script_core.specs.declared.taps.TapState.{TapState}
use Rattle.script_core.specs.Deeds.{Progress, StepDeeds}
use Rattle.script_core.specs.Steps.{IsCount, IsStep}
use Rattle.script_core.specs.Taps.{seen_through, looks, look_in, LooksSo}
use Rattle.run_sections.specs.Taps.{TellsNoLook}
use Rattle.run_steps.specs.Looks.{look_told}
use Rattle.run_steps.proofs.EachDeed.{step_each}

-- where a deed tells a look, it is one of the client at the tap of one of n centres, and tells what that tap has
abbrev pub Sees : ℕ → (ℕ → TapState) → ℕ → Deed → Type 0
Sees n taps client deed = (looker centre : ℕ) (object : ObjectId) (seen : Seen) → deed ≡ Told (line.Look looker centre object seen) → (looker ≡ client) × IsCount n centre × (seen_through (taps centre) object ≡ Some seen)

-- ---- steps that look through no tap

-- no ask and no call tells a look
asked_none : (i : ℕ) (ask : Ask) (fate : Fate) → TellsNoLook (Asked i ask fate)
asked_none i ask fate looker centre object seen is = absurd (cc)

did_none : (call : Call) (outcome : Outcome) → TellsNoLook (Did call outcome)
did_none call outcome looker centre object seen is = absurd (cc)

-- no other line does
told_none : (l : Line) → look_told l ≡ None → TellsNoLook (Told l)
told_none l none looker centre object seen is =
    let same : l ≡ line.Look looker centre object seen = cc in
    absurd (none-some (record { client = looker; centre = centre; object = object; seen = seen }) (sym none ∙ ap look_told same))

-- such a step tells none
pub plain_tells : (p : Progress) (does : ClientStep) (deeds : List Deed) → look_in does ≡ None → StepDeeds p does deeds → All TellsNoLook deeds
plain_tells p does deeds plain are =
    step_each TellsNoLook asked_none told_none p does deeds (λ call outcome of. did_none call outcome)
    (λ centre object seen look. absurd (none-some (centre, object) (sym plain ∙ ap look_in look))) are

-- ---- what a step sees

module _ (n : ℕ) (taps : ℕ → TapState) (client : ℕ) where
  -- no ask and no call tells one
  asked_sees : (i : ℕ) (ask : Ask) (fate : Fate) → Sees n taps client (Asked i ask fate)
  asked_sees i ask fate looker centre object seen is = absurd (cc)

  did_sees : (call : Call) (outcome : Outcome) → Sees n taps client (Did call outcome)
  did_sees call outcome looker centre object seen is = absurd (cc)

  -- no other line does
  told_sees : (l : Line) → look_told l ≡ None → Sees n taps client (Told l)
  told_sees l none looker centre object seen is =
      let same : l ≡ line.Look looker centre object seen = cc in
      absurd (none-some (record { client = looker; centre = centre; object = object; seen = seen }) (sym none ∙ ap look_told same))

  -- a step that is no look tells none
  pub plain_sees : (p : Progress) (does : ClientStep) (deeds : List Deed) → look_in does ≡ None → StepDeeds p does deeds → All (Sees n taps client) deeds
  plain_sees p does deeds plain are =
      step_each (Sees n taps client) asked_sees told_sees p does deeds (λ call outcome of. did_sees call outcome)
      (λ centre object seen look. absurd (none-some (centre, object) (sym plain ∙ ap look_in look))) are

  -- the line of a look tells what the tap has
  line_sees : (centre : ℕ) (object : ObjectId) (saw : Seen) → IsCount n centre → seen_through (taps centre) object ≡ Some saw → Sees n taps client (Told (line.Look client centre object saw))
  line_sees centre object saw range is looker at of seen same =
      let lines : line.Look client centre object saw ≡ line.Look looker at of seen = cc in
      let who : client ≡ looker = cc in
      let through : centre ≡ at = cc in
      let what : object ≡ of = cc in
      let so : saw ≡ seen = cc in
      (sym who, subst (IsCount n) through range, sym (λ i. seen_through (taps (through i)) (what i)) ∙ (is ∙ ap Some so))

  look_sees : (centre : ℕ) (object : ObjectId) (deeds : List Deed) → IsCount n centre → deeds ≡ looks client centre object (seen_through (taps centre) object) → All (Sees n taps client) deeds
  look_sees centre object deeds range are = subst (All (Sees n taps client)) (sym are) (go (seen_through (taps centre) object) refl)
    where
      go : (o : Option Seen) → seen_through (taps centre) object ≡ o → All (Sees n taps client) (looks client centre object o)
      go None is = All-nil (Sees n taps client)
      go (Some saw) is = All-cons (Sees n taps client) (Told (line.Look client centre object saw)) [] (line_sees centre object saw range is) (All-nil (Sees n taps client))

  -- so it is of each step
  pub step_sees : (p : Progress) (does : ClientStep) (deeds : List Deed) → IsStep n does → StepDeeds p does deeds → LooksSo taps client does deeds → All (Sees n taps client) deeds
  step_sees p (Look centre object) deeds is are look = look_sees centre object deeds is.0 look
  step_sees p does deeds is are look = plain_sees p does deeds refl are
