use Rattle.wire_codec.proofs.Answering.{bytes_of, answered, only_answer}
use Rattle.wire_codec.proofs.decoding.decode.Goals as goal

pub returns-clause-answer : goal.returns-clause-answer
returns-clause-answer c = answered c.args.bytes.now c.told.result (bytes_of c.args.bytes.now c.type_inv.bytes) c.told.ensures

pub returns-clause-only : goal.returns-clause-only
returns-clause-only c = only_answer c.args.bytes.now c.told.result c.told.ensures
