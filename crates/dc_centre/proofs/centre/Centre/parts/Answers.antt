use Rattle.std.proofs.Common.{length, refl, sym, ap, ◌∙◌, subst}
use Rattle.centre_parts.specs.declared.part.CentreParts.{CentreParts}
use Rattle.dc_centre.specs.Centre.{CentreView}
use Rattle.dc_centre.specs.Parts.{ArePartsOf}
use Rattle.dc_centre.proofs.CentreParts.{applied_met, parts_meet, parts_only}
use Rattle.dc_centre.proofs.centre.Centre.parts.Goals as goal

pub returns : goal.returns
returns c =
    let s = c.self.inside in
    let centre : CentreView = record { settings = s.settings; applied = s.applied; told = s.told; mark = s.mark; trimmed = s.trimmed; outbox = s.outbox.rows; down = s.stopped } in
    let parts : CentreParts = record { settings = s.settings; applied = c.in_ok-parts.field-0; rows = c.from_vec.result; mark = s.mark; trimmed = s.trimmed; outbox = c.in_ok-parts-2.field-0; stopped = s.stopped } in
    let are : ArePartsOf centre parts = record {
      settings = refl;
      applied = c.in_ok-parts.ensures.told;
      rows = c.from_vec.ensures ∙ (c.in_ok-from_slice.ensures.items ∙ c.rows.ensures.rows);
      mark = refl;
      trimmed = refl;
      outbox = c.in_ok-parts-2.ensures.told;
      stopped = refl;
    } in
    record {
      told = subst (λ (h : CentreView). ArePartsOf h parts) c.self.view_is are;
      are = parts_meet centre parts c.self.invariant are c.in_ok-parts.ensures.are (ap length (sym c.in_ok-parts-2.ensures.told) ∙ c.in_ok-parts-2.ensures.many);
      only = λ others met also.
          let those : ArePartsOf centre others = subst (λ (h : CentreView). ArePartsOf h others) (sym c.self.view_is) also in
          parts_only centre parts others are those (c.in_ok-parts.ensures.only others.applied (applied_met others met) those.applied);
    }
