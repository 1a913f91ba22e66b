use Rattle.std.proofs.Common.{◌<◌}
use Rattle.read_tap.specs.Shows.{width}
use Rattle.benchmarks.proofs.taps.looks_of.Given as goal

abbrev pub invariant-looks : goal.invariant-looks
invariant-looks l = 0 < width l.reader.table
