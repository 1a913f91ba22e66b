use Rattle.std.proofs.Common.{◌∙◌, ap, drop}
use Rattle.std.proofs.lemmas.List.{drop-drop}
use Rattle.script_core.specs.Lines.{lines_of}
use Rattle.script_advice.proofs.lines.from_line.Goals as goal

pub loop-line-preserved : goal.loop-line-preserved
loop-line-preserved c = c.behind_first-rest.ensures ∙ (ap (drop 1) c.loop-line.invariant ∙ drop-drop 1 c.loop-line._line (lines_of c.args.input.now))
