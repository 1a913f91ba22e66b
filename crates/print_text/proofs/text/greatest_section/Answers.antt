use Rattle.std.proofs.Common.{◌≡◌, max, ◌∙◌, arith}
use Rattle.print_text.proofs.Parts.{greatest_more}
use Rattle.print_text.proofs.text.greatest_section.Goals as goal

pub loop-note-preserved : goal.loop-note-preserved
loop-note-preserved c =
    let greater : c.max-last.result ≡ max c.loop-note.last c.note-item.result.section = grind (arith, c.max-last.ensures) in
    greater ∙ greatest_more c.args.notes.now c.loop-note.note-index c.loop-note.last c.note-item.result c.loop-note-test.true c.note-item.is c.loop-note.invariant
