use Rattle.std.proofs.Common.{◌+◌, arith, ap, ◌∙◌}
use Rattle.load_text.proofs.Phases.{no_phase_next, phase_next}
use Rattle.load_text.proofs.last.last_in.Goals.{then-section, else-section}
use Rattle.load_text.proofs.last.last_in.Goals as goal

pub loop-section-preserved : goal.loop-section-preserved
loop-section-preserved c = elim c.if-section.branch [
  | then-section w ↦ record {
    number = ap (λ n. n + 1) c.loop-section.invariant.number;
    low = omega (arith, w.last-is, c.loop-section.invariant.number);
    last = w.last-is ∙ (ap (λ n. n + 1) c.loop-section.invariant.number ∙ phase_next c.args.sections.now c.loop-section.section-index c.loop-section.last c.section-item.result c.loop-section-test.true c.section-item.is c.loop-section.invariant.low c.loop-section.invariant.last w.if-section.true);
  }
  | else-section w ↦ record {
    number = ap (λ n. n + 1) c.loop-section.invariant.number;
    low = omega (arith, w.last-is, c.loop-section.invariant.low);
    last = w.last-is ∙ no_phase_next c.args.sections.now c.loop-section.section-index c.loop-section.last c.section-item.result c.loop-section-test.true c.section-item.is c.loop-section.invariant.last w.if-section.false;
  }
]
