use Rattle.std.proofs.Common.{subst}
use Rattle.wire_codec.proofs.Answering.{bytes_of}
use Rattle.state_codec.specs.Reading.{Fails}
use Rattle.state_codec.proofs.Begins.{rest_within, found, none_found}
use Rattle.parts_codec.specs.Reading.{centre_at}
use Rattle.parts_codec.proofs.Spelled.{centre_tells}
use Rattle.parts_codec.proofs.centre.centre_at.Goals as goal

pub overflow_sub-count : goal.overflow_sub-count
overflow_sub-count c = rest_within centre_tells c.args.bytes.now c.in-Ok.rest.now c.in-Ok.centre (bytes_of c.args.bytes.now c.type_inv.bytes) c.in-Ok.ensures

pub returns-in-Ok : goal.returns-in-Ok
returns-in-Ok c = found centre_tells c.args.bytes.now c.in-Ok.rest.now c.in-Ok.centre (bytes_of c.args.bytes.now c.type_inv.bytes) c.in-Ok.ensures

pub returns-in-Err-Other : goal.returns-in-Err-Other
returns-in-Err-Other c = none_found centre_tells c.args.bytes.now (subst (λ stop. Fails stop (centre_at c.args.bytes.now)) c.in-Err-Other.field-0-is c.in-Err-Other.ensures)
