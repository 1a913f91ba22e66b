use Rattle.std.proofs.Common.{◌≡◌, ⊎_elim, Err, List, sym, ap, ◌∙◌, subst}
use Rattle.std.specs.Prelude.{IsErrOf}
use Rattle.state_codec.specs.declared.writing.NotPut.{NotPut}
use Rattle.parts_codec.specs.Plain.{HasParts}
use Rattle.parts_codec.proofs.PointKinds.{are_of_kind}
use Rattle.parts_frames.specs.Ranges.{IsRangedCentre}
use Rattle.parts_frames.proofs.Trails.{ranged}
use Rattle.pair_centre.specs.States.{IsCheckpointOf}
use Rattle.pair_centre.proofs.compacting.checkpoint_of.Goals as goal

pub returns-in-Ok-from_array-clause-made : goal.returns-in-Ok-from_array-clause-made
returns-in-Ok-from_array-clause-made c = λ trail stands.
    let told = c.in-Ok.ensures.told in
    let made = c.in-Ok-of.ensures in
    let spelled = c.in-Ok-of-2.ensures.ok in
    subst (λ l. IsCheckpointOf c.args.centre.now.settings trail l) (sym c.in-Ok-from_array.ensures.items)
    (record {
      centre = c.args.centre.now;
      parts = c.in-Ok.parts;
      stands = stands;
      told = told;
      has = record {
        settings = told.settings;
        meets = c.in-Ok.ensures.are;
        kinds = made.kinds;
        plain = spelled ∙ made.plain;
        states = subst HasParts (sym spelled) made.fit;
      };
    })

-- equal refusals have equal faults
same_fault : {T : Type 0} (a b : NotPut) → IsErrOf {T = T} (Err a) b → a ≡ b
same_fault a b same = cc

pub returns-in-Err-Unfit-clause-unfit_by : goal.returns-in-Err-Unfit-clause-unfit_by
returns-in-Err-Unfit-clause-unfit_by c = λ same trail history stands.
    absurd (c.of.ensures.unfit.0 (c.in-Err-Unfit.is ∙ ap Err c.in-Err-Unfit.field-0-is) (are_of_kind c.args.centre.now trail c.in-Ok.parts stands c.in-Ok.ensures.are c.in-Ok.ensures.told))

pub returns-in-Err-clause-unfit_by : goal.returns-in-Err-clause-unfit_by
returns-in-Err-clause-unfit_by c = λ same trail history stands.
    let known = c.in-Ok.ensures in
    let made = c.in-Ok-of.ensures in
    ⊎_elim (λ far. far) (λ fine. absurd (c.in-Err.ensures.unfit.0 (ap Err (same_fault _ _ same)) (c.see_centre.ensures made.fit (subst IsRangedCentre (sym made.plain) fine))))
    (ranged c.args.centre.now trail c.in-Ok.parts history stands known.are known.told)
