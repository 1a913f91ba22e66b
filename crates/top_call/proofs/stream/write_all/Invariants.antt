use Rattle.std.proofs.Common.{◌≡◌, ◌≤◌, ◌-◌, length, take}
use Rattle.io_edge.specs.Streams.{puts_behind}
use Rattle.top_call.proofs.stream.write_all.Given as goal

abbrev pub invariant-loop-done : goal.invariant-loop-done
invariant-loop-done g l = record {
  within : l.done ≤ length l.text;
  taken : g.W.Sink.taken l.sink ≡ puts_behind (take l.done l.text) (g.W.Sink.taken l.fn.sink);
  quiet : g.W.Sink.faults l.sink ≡ g.W.Sink.faults l.fn.sink;
  may : g.W.Sink.may_write l.sink;
}

abbrev pub decreases-loop-done : goal.decreases-loop-done
decreases-loop-done g l = length l.text - l.done
