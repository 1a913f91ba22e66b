use Rattle.std.proofs.Common.{◌≡◌, max, map, ap, ◌∙◌, arith}
use Rattle.vv_core.specs.Vectors.{most}
use Rattle.dc_talk.specs.declared.log.Note.{Note}
use Rattle.print_text.proofs.Parts.{last_more}
use Rattle.print_text.proofs.text.last_section.Goals as goal

pub loop-log-preserved : goal.loop-log-preserved
loop-log-preserved c =
    let greater : c.max-last.result ≡ max c.loop-log.last c.greatest_section.result = grind (arith, c.max-last.ensures) in
    greater ∙ last_more c.args.logs.now c.loop-log.log-index c.loop-log.last c.greatest_section.result c.log-item.result c.loop-log-test.true c.log-item.is c.loop-log.invariant
    (c.greatest_section.ensures ∙ ap (λ notes. most (map (λ (note : Note). note.section) notes)) c.as_slice.ensures)
