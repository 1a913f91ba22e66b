use Rattle.std.proofs.Common.{◌≤◌, length, subst}
use Rattle.std.specs.Prelude.{All}
use Rattle.ids_core.specs.declared.limits.TheConstants.{MOST_CENTRES}
use Rattle.parts_codec.specs.Spelling.{IsHalf}
use Rattle.parts_frames.proofs.see.VectorSee.see.Goals as goal

pub returns : goal.returns
returns c =
    let same = c.as_slice.ensures.value in
    let all = subst (All (λ number. Unit {0} → IsHalf number)) same c.see_each.ensures in
    λ u. record { wide = subst (λ v. (1 ≤ length v) × (length v ≤ MOST_CENTRES)) same c.as_slice.ensures.range; each = λ k d within. all k d within tt }
