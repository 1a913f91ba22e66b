use Rattle.std.proofs.Common.{subst}
use Rattle.wire_codec.proofs.Answering.{bytes_of}
use Rattle.state_codec.specs.Reading.{Fails, plain_at}
use Rattle.state_codec.proofs.Spelled.{plain_tells}
use Rattle.state_codec.proofs.Begins.{rest_within, found, none_found}
use Rattle.state_codec.proofs.reading.state_at.Goals as goal

pub overflow_sub-count : goal.overflow_sub-count
overflow_sub-count c = rest_within plain_tells c.args.bytes.now c.in-Ok.rest.now c.in-Ok.state (bytes_of c.args.bytes.now c.type_inv.bytes) c.in-Ok.ensures

pub returns-in-Ok : goal.returns-in-Ok
returns-in-Ok c = found plain_tells c.args.bytes.now c.in-Ok.rest.now c.in-Ok.state (bytes_of c.args.bytes.now c.type_inv.bytes) c.in-Ok.ensures

pub returns-in-Err-Other : goal.returns-in-Err-Other
returns-in-Err-Other c = none_found plain_tells c.args.bytes.now (subst (λ stop. Fails stop (plain_at c.args.bytes.now)) c.in-Err-Other.field-0-is c.in-Err-Other.ensures)
