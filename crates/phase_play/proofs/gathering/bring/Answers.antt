use Rattle.phase_play.proofs.Swapping.{both}
use Rattle.phase_play.proofs.gathering.bring.Goals as goal

pub places-preserved : goal.places-preserved
places-preserved c = record {
  end = c.in_ok-end.ensures.end;
  swaps = both c.args.players.now.items c.places.players.items c.bring_one.new.players.items c.args.swaps.now.items c.places.swaps.items c.bring_one.new.swaps.items c.places.invariant.swaps c.in_ok-end.ensures.swaps;
}
