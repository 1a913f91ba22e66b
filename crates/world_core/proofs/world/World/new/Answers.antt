use Rattle.std.proofs.Common.{[], false}
use Rattle.world_core.proofs.Worlds.{new_world}
use Rattle.world_core.proofs.world.World.new.Goals as goal

pub invariant_of-result : goal.invariant_of-result
invariant_of-result c = λ fresh. record { range = c.requires; all = []; world = new_world c.args.script.now false c.in_ok-table.table c.requires.header.n.1 c.in_ok-table.ensures }

pub returns-clause-empty : goal.returns-clause-empty
returns-clause-empty c = new_world c.args.script.now false c.in_ok-table.table c.requires.header.n.1 c.in_ok-table.ensures
