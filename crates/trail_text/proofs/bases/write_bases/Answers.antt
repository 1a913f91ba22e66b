use Rattle.std.proofs.Common.{◌+◌, ◌++◌, ap, ◌∙◌}
use Rattle.trail_text.specs.Trails.{basis_text}
use Rattle.trail_text.proofs.Growing.{numbered_next}
use Rattle.trail_text.proofs.bases.write_bases.Goals as goal

pub loop-before-preserved : goal.loop-before-preserved
loop-before-preserved c =
    numbered_next (basis_text c.args.client) c.args.bases.now c.loop-before.before c.index-bases-before.result c.args.text.now.items c.loop-before.text.items c.write_basis.new.text.items c.loop-before-test.true c.index-bases-before.is c.loop-before.invariant
    (c.in_ok-write_basis.ensures ∙ ap (λ dots. c.loop-before.text.items ++ basis_text c.args.client (c.loop-before.before + 1) dots) c.as_slice.ensures)
