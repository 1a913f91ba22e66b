use Rattle.std.proofs.Common.{◌<◌, length, subst}
use Rattle.std.specs.Prelude.{All, ◌^◌}
use Rattle.parts_frames.proofs.see.ListSee.see.Goals as goal

pub returns : goal.returns
returns g c =
    let same = c.as_slice-items.ensures in
    let all = subst (All (λ item. g.T.See.is_ranged item → g.T.See.has_bytes item)) same c.see_each.ensures in
    λ ranged. record { few = subst (λ list. length list < 2 ^ 64) same c.as_slice-items.type_inv.0; each = λ k d within. all k d within (ranged k d within) }
