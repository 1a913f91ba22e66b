use Rattle.std.proofs.Common.{◌≡◌, length, sym, ap, ◌∙◌, arith}
use Rattle.dc_centre.specs.Applied.{AppliedView}
use Rattle.dc_centre.proofs.applied.Applied.deps_of.Goals as goal

pub raise-requires : goal.raise-requires
raise-requires c =
    let n : length c.self.inside.vector ≡ length c.args.self.now.counts = ap (λ (h : AppliedView). length h.counts) c.self.view_is in
    let range = c.self.invariant.stamps c.args.tx.now.dot.client c.in-Some.stamp (sym c.first_stamp.ensures.stamp ∙ c.in-Some.is) in
    let high = range.high in
    let width = c.requires.width in
    (range.low, omega (arith, high, n, width))
