use Rattle.std.proofs.Common.{arith}
use Rattle.host_lock.proofs.Steps.{notes}
use Rattle.host_lock.proofs.turns.note.Goals as goal

pub fetch_add-requires : goal.fetch_add-requires
fetch_add-requires g c = let m = g.M.Machine in let e = c.requires.entry in
    (c.requires.table.0, omega (arith, c.requires.table.1.0), notes m.reply m.stands m.settings _ _ _ _ _ _ e.0 c.requires.out e.1 e.2 e.3 e.4)
