use Rattle.std.proofs.Common.{◌≤◌}
use Rattle.phase_play.specs.Swaps.{Swaps}
use Rattle.phase_play.proofs.gathering.bring.Given as goal

abbrev pub invariant-places : goal.invariant-places
invariant-places l = record {
  end : l.end ≤ l.place;
  swaps : Swaps l.fn.players.items l.players.items l.fn.swaps.items l.swaps.items;
}
