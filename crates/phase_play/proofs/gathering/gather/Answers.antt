use Rattle.std.proofs.Common.{◌≤◌, [], sym, subst}
use Rattle.phase_play.proofs.Swapping.{both}
use Rattle.phase_play.proofs.gathering.gather.Goals as goal

pub centres-preserved : goal.centres-preserved
centres-preserved c =
    let then = c.in_ok-from.ensures.swaps in
    record {
      from = subst (λ n. c.in_ok-from.from ≤ n) (sym then.long) c.in_ok-from.ensures.end;
      swaps = both c.args.players.now.items c.centres.players.items c.bring.new.players.items [] c.centres.swaps.items c.bring.new.swaps.items c.centres.invariant.swaps then;
    }
