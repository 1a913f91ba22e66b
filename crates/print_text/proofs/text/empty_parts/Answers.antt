use Rattle.std.proofs.Common.{◌+◌, ap, subst, sym}
use Rattle.std.specs.Prelude.{length}
use Rattle.print_text.specs.Parts.{HasEmptyParts}
use Rattle.print_text.proofs.Parts.{empty_first, empty_more}
use Rattle.print_text.proofs.text.empty_parts.Goals as goal

pub loop-section-init : goal.loop-section-init
loop-section-init c = empty_first c.new-parts.result.items (ap length c.new-parts.ensures.items)

pub loop-section-preserved : goal.loop-section-preserved
loop-section-preserved c = subst (HasEmptyParts (c.loop-section._section + 1)) (sym c.in_ok-push.ensures.items) (empty_more c.loop-section._section c.loop-section.parts.items c.new.result c.new.ensures.items c.loop-section.invariant)
