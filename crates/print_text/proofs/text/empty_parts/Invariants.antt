use Rattle.print_text.specs.Parts.{HasEmptyParts}
use Rattle.print_text.proofs.text.empty_parts.Given as goal

abbrev pub invariant-loop-section : goal.invariant-loop-section
invariant-loop-section l = HasEmptyParts l._section l.parts.items
