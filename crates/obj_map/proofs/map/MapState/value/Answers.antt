use Rattle.obj_map.proofs.Values.{pairs_done}
use Rattle.obj_map.proofs.map.MapState.value.Goals as goal

pub returns-clause-ascending : goal.returns-clause-ascending
returns-clause-ascending c = pairs_done c.self.inside.tallies c.deref-key-items.result.now c.loop-key.list.items c.loop-key.key-index c.loop-key-test.false c.loop-key.invariant
