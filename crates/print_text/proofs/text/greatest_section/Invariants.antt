use Rattle.std.proofs.Common.{◌≡◌, map, take}
use Rattle.vv_core.specs.Vectors.{most}
use Rattle.dc_talk.specs.declared.log.Note.{Note}
use Rattle.print_text.proofs.text.greatest_section.Given as goal

abbrev pub invariant-loop-note : goal.invariant-loop-note
invariant-loop-note l = l.last ≡ most (map (λ (note : Note). note.section) (take l.note-index l.notes))
