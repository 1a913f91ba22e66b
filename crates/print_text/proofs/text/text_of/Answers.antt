use Rattle.std.proofs.Common.{ap, ◌∙◌}
use Rattle.print_text.specs.Parts.{texts_in}
use Rattle.print_text.proofs.Parts.{texts_of_logs}
use Rattle.print_text.proofs.text.text_of.Goals as goal

pub returns : goal.returns
returns c =
    c.in_ok-text.ensures
    ∙ (ap texts_in c.as_slice.ensures.value
    ∙ texts_of_logs c.args.logs.now c.last_section.result c.in_ok-parts.parts.items c.add_all.new.parts.items c.last_section.ensures c.in_ok-parts.ensures c.in_ok-add_all.ensures)
