use Rattle.std.proofs.Common.{◌≤◌, [], length}
use Rattle.phase_play.specs.Swaps.{Swaps}
use Rattle.phase_play.proofs.gathering.gather.Given as goal

abbrev pub invariant-centres : goal.invariant-centres
invariant-centres l = record {
  from : l.from ≤ length l.players.items;
  swaps : Swaps l.fn.players.items l.players.items [] l.swaps.items;
}
