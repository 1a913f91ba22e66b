use Rattle.std.proofs.Common.{arith}
use Rattle.host_lock.proofs.Steps.{gives_as}
use Rattle.host_lock.proofs.turns.swap_in.Goals as goal

pub load-requires : goal.load-requires
load-requires g c = let m = g.M.Machine in let k = c.requires.slot in
    (c.requires.table.0, omega (arith, c.requires.table.1.0), gives_as m.reply m.stands m.settings _ _ _ _ _ _ k.0 k.1 c.requires.out k.2 k.3 k.4)
