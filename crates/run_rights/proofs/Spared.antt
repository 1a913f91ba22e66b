-- A step that spares cells leaves no deed that changes one.
use Rattle.std.proofs.Common.{◌≡◌, inl, inr, true, List, sym, ap, ◌∙◌, subst}
use Rattle.std.specs.Prelude.{All}
use Rattle.std.proofs.lemmas.List.Elements.{All-weaker}
use Rattle.ids_core.specs.declared.object.ObjectId.{ObjectId}
use Rattle.ids_core.specs.Ids.{same_object}
use Rattle.dc_talk.specs.declared.calls.Change.{Change as ChangeOf}
use Rattle.dc_talk.specs.declared.calls.Call.{Call}
use Rattle.dc_talk.specs.declared.calls.Call.TheVariants.{Change as ChangeCall}
use Rattle.dc_talk.specs.declared.calls.Outcome.{Outcome}
use Rattle.dc_talk.specs.declared.calls.Outcome.TheVariants.{Fine}
use Rattle.dc_talk.specs.declared.log.Deed.{Deed}
use Rattle.dc_talk.specs.declared.log.Deed.TheVariants.{Did}
use Rattle.script_core.specs.declared.steps.ClientStep.{ClientStep}
use Rattle.script_core.specs.declared.steps.ClientStep.TheVariants.{Begin, Change, Read, Grant, Give, Take, Rights, Commit, Abort}
use Rattle.script_core.specs.declared.steps.Share.{Share}
use Rattle.script_core.specs.Deeds.{Progress, StepDeeds}
use Rattle.run_steps.specs.Calls.{IsCallOf, IsCellRead}
use Rattle.run_steps.specs.Quiet.{IsQuiet}
use Rattle.run_steps.proofs.EachDeed.{step_each}
use Rattle.run_rights.specs.Steps.{ChangesNone, IsNoneOf, Spares}

-- a change is not quiet
pub change_loud : (deed : Deed) (o : ObjectId) (change : ChangeOf) → deed ≡ Did (ChangeCall o change) Fine → IsQuiet deed → ⊥
change_loud deed o change is quiet = subst IsQuiet is quiet

-- so quiet deeds change none of them
pub quiet_spared : (cells : List ObjectId) (deeds : List Deed) → All IsQuiet deeds → All (ChangesNone cells) deeds
quiet_spared cells deeds quiet = All-weaker IsQuiet (ChangesNone cells) (λ deed is o cell change same among hit. change_loud deed o change same is) deeds quiet

module _ (cells : List ObjectId) where
  -- a change of an object that is none of them
  change_spared : (o : ObjectId) (change : ChangeOf) (call : Call) (outcome : Outcome) → IsNoneOf cells o → call ≡ ChangeCall o change → ChangesNone cells (Did call outcome)
  change_spared o change call outcome none is p cell other same among hit =
      let whole : Did (ChangeCall o change) outcome ≡ Did (ChangeCall p other) Fine = ap (λ c. Did c outcome) (sym is) ∙ same in
      let object : o ≡ p = cc in
      none cell among (subst (λ o. same_object o cell ≡ true) (sym object) hit)

  -- a read of a cell
  read_spared : (share : Share) (call : Call) (outcome : Outcome) → IsCellRead share call → ChangesNone cells (Did call outcome)
  read_spared share call outcome is p cell other same among hit = let read = is.1.1 in absurd (cc)

  -- each call of the step
  call_spared : (step : ClientStep) → Spares cells step → (call : Call) (outcome : Outcome) → IsCallOf step call → ChangesNone cells (Did call outcome)
  call_spared (Change o change) spares call outcome is = change_spared o change call outcome spares is
  call_spared (Grant share amount) spares call outcome is = change_spared _ _ call outcome spares is
  call_spared (Give share to amount) spares call outcome (inl read) = read_spared share call outcome read
  call_spared (Give share to amount) spares call outcome (inr is) = change_spared _ _ call outcome spares is
  call_spared (Take share amount) spares call outcome (inl read) = read_spared share call outcome read
  call_spared (Take share amount) spares call outcome (inr is) = change_spared _ _ call outcome spares is
  call_spared (Rights share) spares call outcome is = read_spared share call outcome is
  call_spared Begin spares call outcome is = λ p cell other same among hit. absurd (cc)
  call_spared (Read o) spares call outcome is = λ p cell other same among hit. absurd (cc)
  call_spared Commit spares call outcome is = λ p cell other same among hit. absurd (cc)
  call_spared Abort spares call outcome is = λ p cell other same among hit. absurd (cc)
  call_spared _ spares call outcome is = absurd is

-- each deed of the step changes none of them
pub spared : (cells : List ObjectId) (p : Progress) (step : ClientStep) (deeds : List Deed) → Spares cells step → StepDeeds p step deeds → All (ChangesNone cells) deeds
spared cells p step deeds spares are = step_each (ChangesNone cells) (λ i ask fate o cell change is. absurd (cc)) (λ line plain o cell change is. absurd (cc)) p step deeds (call_spared cells step spares) (λ centre object seen look o cell change is. absurd (cc)) are
