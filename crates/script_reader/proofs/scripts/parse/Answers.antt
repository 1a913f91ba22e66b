use Rattle.std.proofs.Common.{◌∙◌, sym}
use Rattle.script_reader.proofs.CutOff.{cut_off}
use Rattle.script_reader.proofs.scripts.parse.Goals as goal

pub returns-clause-cut_off : goal.returns-clause-cut_off
returns-clause-cut_off c = λ some past more. c.read_lines.ensures some ∙ sym (cut_off c.args.bytes.now more past)
