use Rattle.std.proofs.Common.{arith}
use Rattle.host_lock.proofs.Steps.{frees}
use Rattle.host_lock.proofs.turns.free_turn.Goals as goal

pub store-requires : goal.store-requires
store-requires g c = let m = g.M.Machine in (c.requires.table.0, omega (arith, c.requires.table.1.0), frees m.reply m.stands m.settings _ _ _ _ _ _ c.requires.turns.0 c.requires.turns.1)
