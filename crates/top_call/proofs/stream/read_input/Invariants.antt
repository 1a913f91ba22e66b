use Rattle.std.proofs.Common.{◌≡◌, ◌≤◌, vec_len}
use Rattle.io_edge.specs.Streams.{puts_back}
use Rattle.script_core.specs.Limits.{PassesLimits}
use Rattle.script_core.specs.LineCounts.{Counts}
use Rattle.top_call.proofs.stream.read_input.Given as goal

abbrev pub invariant-loop-turn : goal.invariant-loop-turn
invariant-loop-turn g l = record {
  taken : g.S.Source.left l.fn.source ≡ puts_back l.bytes.items (g.S.Source.left l.source);
  quiet : g.S.Source.faults l.source ≡ g.S.Source.faults l.fn.source;
  long : l.turn ≤ vec_len l.bytes;
  counts : Counts l.count l.bytes.items;
  within : PassesLimits l.bytes.items → ⊥;
  may : g.S.Source.may_read l.source;
}
