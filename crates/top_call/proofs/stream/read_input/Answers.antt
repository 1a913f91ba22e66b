use Rattle.std.proofs.Common.{ap, ◌∙◌, sym}
use Rattle.io_edge.specs.Streams.{puts_back}
use Rattle.top_call.proofs.Pieces.{left_behind, back_twice}
use Rattle.top_call.proofs.stream.read_input.Goals as goal

pub returns-in_err-taken-clause-gone : goal.returns-in_err-taken-clause-gone
returns-in_err-taken-clause-gone g c = left_behind _ c.loop-turn.bytes.items _ _ (c.loop-turn.invariant.taken ∙ ap (puts_back c.loop-turn.bytes.items) (sym c.in_err-taken.ensures.kept))

pub returns-in_err-extend_from_slice-clause-gone : goal.returns-in_err-extend_from_slice-clause-gone
returns-in_err-extend_from_slice-clause-gone g c = left_behind _ _ _ _ ((c.loop-turn.invariant.taken ∙ ap (puts_back c.loop-turn.bytes.items) c.in_ok-taken.ensures.bytes) ∙ back_twice c.loop-turn.bytes.items _ _)
