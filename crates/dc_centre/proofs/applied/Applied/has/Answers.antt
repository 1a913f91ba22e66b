use Rattle.std.proofs.Common.{length, sym, subst}
use Rattle.dc_centre.specs.Applied.{AppliedView, IsApplied}
use Rattle.dc_centre.proofs.Applying.{has_within, within_has}
use Rattle.dc_centre.proofs.applied.Applied.has.Goals as goal

pub returns : goal.returns
returns c = λ A h.
    let s = c.self.inside in
    let x : AppliedView = record { counts = s.vector; lasts = s.guard; greatest = s.top; point = s.point; log = s.log } in
    let is : IsApplied (length s.vector) x A = subst (λ (x : AppliedView). IsApplied (length x.counts) x A) (sym c.self.view_is) h in (
      λ t. let p = c.is_counted.ensures.0 t in has_within (length s.vector) x A c.args.stamp.now is p.0 p.1 p.2 p.3,
      λ there. c.is_counted.ensures.1 (within_has (length s.vector) x A c.args.stamp.now is there),
    )
