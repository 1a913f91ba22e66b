use Rattle.std.proofs.Common.{◌≡◌, length, sym, subst}
use Rattle.vv_core.specs.Vectors.{Covers}
use Rattle.dc_centre.specs.Applied.{AppliedView}
use Rattle.dc_centre.proofs.Kept.{kept_pruned}
use Rattle.dc_centre.proofs.applied.Applied.prune.Goals as goal

pub invariant_of-self-2 : goal.invariant_of-self-2
invariant_of-self-2 c =
    let s = c.self.inside in
    let x : AppliedView = record { counts = s.vector; lasts = s.guard; greatest = s.top; point = s.point; log = s.log } in
    let e = c.in_ok-prune.ensures in
    kept_pruned x c.prune.new.point c.prune.new.log c.args.to.now s.served.entries c.clear.new.self.entries s.mines.entries c.clear-2.new.self.entries s.passed.entries c.clear-3.new.self.entries c.self.invariant
    (subst (λ (x : AppliedView). length c.args.to.now ≡ length x.counts) (sym c.self.view_is) c.requires.width)
    (subst (λ (x : AppliedView). Covers x.counts c.args.to.now) (sym c.self.view_is) c.requires.here)
    e.vector e.left c.clear.ensures.empty c.clear-2.ensures.empty c.clear-3.ensures.empty
