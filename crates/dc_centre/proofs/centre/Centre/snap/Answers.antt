use Rattle.std.proofs.Common.{ℕ, List, refl, sym, subst}
use Rattle.vv_core.specs.Vectors.{Covers}
use Rattle.vv_core.proofs.Covering.{Covers_join}
use Rattle.dc_centre.specs.Centre.{CentreView, stable_over}
use Rattle.dc_centre.proofs.Going.{stable_here}
use Rattle.dc_centre.proofs.centre.Centre.snap.Goals as goal

pub mine-mine-requires : goal.mine-mine-requires
mine-mine-requires c =
    let counts : List ℕ = c.self.inside.applied.counts in
    let here : Covers counts c.args.at.now = subst (λ v. Covers v c.args.at.now) c.vector.ensures (c.in-None.ensures.none.0 refl) in
    let stable : Covers counts c.stable.result = subst (Covers counts) (sym c.stable.ensures.entries) (subst (λ (x : CentreView). Covers counts (stable_over x)) c.self.view_is (stable_here c.self.inside.told counts)) in
    subst (Covers counts) (sym c.join-vector.ensures.entries) (Covers_join counts c.args.at.now c.stable.result here stable)
