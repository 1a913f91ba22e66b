use Rattle.std.proofs.Common.{◌≡◌, ◌++◌, drop}
use Rattle.obj_map.specs.Maps.{pairs, pairs_of}
use Rattle.obj_map.proofs.map.MapState.value.Given as goal

abbrev pub invariant-loop-key : goal.invariant-loop-key
invariant-loop-key l = l.list.items ++ pairs_of l.self-inside.tallies (drop l.key-index l.key-items) ≡ pairs l.self-inside.tallies
