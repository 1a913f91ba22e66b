use Rattle.std.proofs.Common.{◌∙◌, ap, drop, sym}
use Rattle.script_reader.specs.Said.{said_words}
use Rattle.script_reader.proofs.Cutting.{texts_none}
use Rattle.script_reader.proofs.Saying.{said_none}
use Rattle.script_reader.proofs.said.say_all.Goals as goal

pub returns-in-empty : goal.returns-in-empty
returns-in-empty c =
    let parts = drop c.loop-part.part-index c.args.parts.now in
    sym (c.loop-part.invariant ∙ (ap (λ texts. said_words c.args.header parts texts c.loop-part.said) (texts_none c.loop-part.rest.now c.in-empty.len_below) ∙ said_none c.args.header parts c.loop-part.said))
