use Rattle.std.proofs.Common.{◌∙◌, ap, drop, sym}
use Rattle.script_reader.specs.Forms.{agrees}
use Rattle.script_reader.proofs.Cutting.{texts_none}
use Rattle.script_reader.proofs.Fitting.{agrees_none}
use Rattle.script_reader.proofs.fit.fit_of.Goals as goal

pub returns-in-empty-clause-near : goal.returns-in-empty-clause-near
returns-in-empty-clause-near c =
    let parts = drop c.loop-part.part-index c.args.parts.now in
    sym (c.loop-part.invariant.near ∙ (ap (agrees parts) (texts_none c.loop-part.rest.now c.in-empty.len_below) ∙ agrees_none parts))
