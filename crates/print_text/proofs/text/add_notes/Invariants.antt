use Rattle.std.proofs.Common.{take}
use Rattle.print_text.specs.Text.{section_text}
use Rattle.print_text.specs.Parts.{Adds}
use Rattle.print_text.proofs.text.add_notes.Given as goal

abbrev pub invariant-loop-note : goal.invariant-loop-note
invariant-loop-note l = Adds (λ section. section_text section (take l.note-index l.notes)) l.fn.parts.items l.parts.items
