use Rattle.std.proofs.Common.{[], List, refl, subst, take_all}
use Rattle.dc_talk.specs.declared.log.Note.{Note}
use Rattle.print_text.specs.Text.{section_text, lines_in}
use Rattle.print_text.specs.Parts.{Adds}
use Rattle.print_text.proofs.Parts.{adds_nothing, logs_more}
use Rattle.print_text.proofs.text.add_logs.Goals as goal

pub loop-log-init : goal.loop-log-init
loop-log-init c = adds_nothing (λ section. []) c.args.parts.now.items (λ section. refl)

pub loop-log-preserved : goal.loop-log-preserved
loop-log-preserved c =
    logs_more c.args.logs.now c.loop-log.log-index c.log-item.result c.args.parts.now.items c.loop-log.parts.items c.add_notes.new.parts.items c.loop-log-test.true c.log-item.is c.loop-log.invariant
    (subst (λ (notes : List Note). Adds (λ section. section_text section notes) c.loop-log.parts.items c.add_notes.new.parts.items) c.as_slice.ensures c.in_ok-add_notes.ensures)

pub returns : goal.returns
returns c = subst (λ logs. Adds (lines_in logs) c.args.parts.now.items c.loop-log.parts.items) (take_all c.loop-log.log-index c.args.logs.now c.loop-log-test.false) c.loop-log.invariant
