use Rattle.std.proofs.Common.{◌∙◌}
use Rattle.wire_codec.proofs.FieldsSpelled.{name_found}
use Rattle.state_codec.proofs.fields.name_of.Goals as goal

pub returns : goal.returns
returns c = c.ok.ensures.value ∙ name_found c.args.bytes.now c.read.result c.requires.0 c.requires.1 c.read.ensures.taken c.read.ensures.refused
