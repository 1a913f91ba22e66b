use Rattle.wire_codec.proofs.Answering.{rest_within, left_within}
use Rattle.wire_codec.proofs.decoding.told.Goals as goal

pub overflow_sub-used : goal.overflow_sub-used
overflow_sub-used c = rest_within c.args.bytes.now c.in-Ok.rest.now c.in-Ok.frame c.in-Ok.ensures

pub overflow_sub-place : goal.overflow_sub-place
overflow_sub-place c = left_within c.args.bytes.now c.in-Err-Fault-Bad.field-0 c.in-Err-Fault-Bad.field-0-0 c.in-Err-Fault-Bad.left c.in-Err-Fault-Bad.field-0-is c.in-Err-Fault-Bad.field-0-0-is c.in-Err-Fault-Bad.ensures
