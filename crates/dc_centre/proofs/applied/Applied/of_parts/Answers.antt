use Rattle.std.proofs.Common.{refl, sym, subst}
use Rattle.dup_guard.specs.Parts as guard
use Rattle.dc_centre.specs.Applied.{AppliedView}
use Rattle.dc_centre.specs.Parts.{AreAppliedPartsOf}
use Rattle.dc_centre.proofs.AppliedParts.{kept_log, kept_made}
use Rattle.dc_centre.proofs.applied.Applied.of_parts.Goals as goal

-- what is made
abbrev made : goal.After-new-3 → AppliedView
made c = record { counts = c.args.parts.vector; lasts = c.in_ok-of_parts.field-0; greatest = c.args.parts.top; point = c.in_ok-of_parts-2.field-0; log = c.in_ok-of_parts-3.field-0 }

-- its parts are those that are given
are : (c : goal.After-new-3) → AreAppliedPartsOf (made c) c.args.parts
are c = record {
  vector = refl;
  notes = subst (guard.ArePartsOf c.in_ok-of_parts.field-0) c.as_slice.ensures c.in_ok-of_parts.ensures;
  top = refl;
  point = c.in_ok-of_parts-2.ensures;
  rest = sym c.in_ok-of_parts-3.ensures.back;
}

pub invariant_of-result : goal.invariant_of-result
invariant_of-result c = kept_made (made c) c.args.parts c.requires (are c) c.new.result.entries c.new-2.result.entries c.new-3.result.entries (kept_log c.in_ok-of_parts-3.field-0 c.args.parts.rest c.in_ok-of_parts-3.ensures.made c.requires.rest.apart) c.new.ensures.empty c.new-2.ensures.empty c.new-3.ensures.empty

pub returns-clause-log : goal.returns-clause-log
returns-clause-log c = kept_log c.in_ok-of_parts-3.field-0 c.args.parts.rest c.in_ok-of_parts-3.ensures.made c.requires.rest.apart
