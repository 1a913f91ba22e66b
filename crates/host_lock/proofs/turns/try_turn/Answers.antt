use Rattle.std.proofs.Common.{arith, ◌≡◌, rules}
use Rattle.host_lock.proofs.Steps.{tries}
use Rattle.host_lock.proofs.turns.try_turn.Goals as goal

pub compare_exchange-requires : goal.compare_exchange-requires
compare_exchange-requires g c = let m = g.M.Machine in let number : c.from.result ≡ c.args.seat.now.me.0.number = search rules in
    (c.requires.table.0, omega (arith, c.requires.table.1.0), tries m.reply m.stands m.settings _ _ _ _ _ _ _ c.requires.calls.0 c.requires.calls.1 number)
