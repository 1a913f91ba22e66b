use Rattle.std.proofs.Common.{refl, sym, subst}
use Rattle.dup_guard.specs.Parts as guard
use Rattle.centre_parts.specs.declared.part.AppliedParts.{AppliedParts}
use Rattle.dc_centre.specs.Applied.{AppliedView}
use Rattle.dc_centre.specs.Parts.{AreAppliedPartsOf}
use Rattle.dc_centre.proofs.AppliedParts.{parts_kept}
use Rattle.dc_centre.proofs.applied.Applied.parts.Goals as goal

pub returns-clause-are : goal.returns-clause-are
returns-clause-are c =
    let s = c.self.inside in
    let x : AppliedView = record { counts = s.vector; lasts = s.guard; greatest = s.top; point = s.point; log = s.log } in
    let p : AppliedParts = record { vector = s.vector; notes = c.from_vec.result; top = s.top; point = c.in_ok-parts-2.field-0; rest = c.in_ok-parts-3.field-0 } in
    let notes = sym c.from_vec.ensures in
    let are : AreAppliedPartsOf x p = record {
      vector = refl;
      notes = subst (guard.ArePartsOf s.guard) notes c.in_ok-parts.ensures.noted;
      top = refl;
      point = c.in_ok-parts-2.ensures.told;
      rest = c.in_ok-parts-3.ensures.told;
    } in
    parts_kept x p s.served.entries s.mines.entries s.passed.entries c.self.invariant are (subst guard.AreParts notes c.in_ok-parts.ensures.parts) c.in_ok-parts-2.ensures.parts c.in_ok-parts-3.ensures.parts
