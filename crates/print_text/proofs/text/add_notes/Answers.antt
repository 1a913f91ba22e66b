use Rattle.std.proofs.Common.{[], refl, subst, take_all}
use Rattle.print_text.specs.Text.{section_text}
use Rattle.print_text.specs.Parts.{Adds}
use Rattle.print_text.proofs.Parts.{adds_nothing, notes_more}
use Rattle.print_text.proofs.text.add_notes.Goals as goal

pub loop-note-init : goal.loop-note-init
loop-note-init c = adds_nothing (λ section. []) c.args.parts.now.items (λ section. refl)

pub loop-note-preserved : goal.loop-note-preserved
loop-note-preserved c = notes_more c.args.notes.now c.loop-note.note-index c.note-item.result c.args.parts.now.items c.loop-note.parts.items c.add_note.new.parts.items c.loop-note-test.true c.note-item.is c.loop-note.invariant c.in_ok-add_note.ensures

pub returns : goal.returns
returns c = subst (λ notes. Adds (λ section. section_text section notes) c.args.parts.now.items c.loop-note.parts.items) (take_all c.loop-note.note-index c.args.notes.now c.loop-note-test.false) c.loop-note.invariant
