use Rattle.std.proofs.Common.{refl, sym, ap}
use Rattle.k_stable.specs.Tables.{Table}
use Rattle.centre_parts.specs.declared.condition.Condition.TheVariants.{Outbox}
use Rattle.dc_centre.specs.Centre.{CentreView}
use Rattle.dc_centre.specs.Parts.{ArePartsOf}
use Rattle.dc_centre.proofs.CentreParts.{applied_met, centre_met, stands_again}
use Rattle.dc_centre.proofs.parts.centre_of.Goals as goal

pub of_parts-requires : goal.of_parts-requires
of_parts-requires c = applied_met c.args.parts c.requires

pub of_parts-requires-2 : goal.of_parts-requires-2
of_parts-requires-2 c = c.requires.meets Outbox

pub invariant_of-result : goal.invariant_of-result
invariant_of-result c = centre_met c.args.parts c.in_ok-of_parts.field-0 c.told_of-told.result c.requires c.in_ok-of_parts.ensures.told c.told_of-told.ensures

pub returns-clause-stands : goal.returns-clause-stands
returns-clause-stands c old trail was stands =
    let p = c.args.parts in
    let centre : CentreView = record { settings = p.settings; applied = c.in_ok-of_parts.field-0; told = c.told_of-told.result; mark = p.mark; trimmed = p.trimmed; outbox = c.in_ok-of_parts-2.field-0.rows; down = p.stopped } in
    let are : ArePartsOf centre p = record {
      settings = refl;
      applied = c.in_ok-of_parts.ensures.told;
      rows = ap (λ (t : Table). t.rows) (sym c.told_of-told.ensures);
      mark = refl;
      trimmed = refl;
      outbox = sym c.in_ok-of_parts-2.ensures;
      stopped = refl;
    } in
    stands_again centre old p trail are was c.in_ok-of_parts.ensures.log stands
