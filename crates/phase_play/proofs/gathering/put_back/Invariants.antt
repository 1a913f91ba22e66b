use Rattle.std.proofs.Common.{◌≡◌, length}
use Rattle.std.specs.Prelude.{All}
use Rattle.phase_play.specs.Swaps.{IsWithin, swapped_back}
use Rattle.phase_play.proofs.gathering.put_back.Given as goal

abbrev pub invariant-swaps : goal.invariant-swaps
invariant-swaps l = record {
  within : All (IsWithin (length l.players.items)) l.left.items;
  back : swapped_back l.players.items l.left.items ≡ swapped_back l.fn.players.items l.fn.swaps.items;
}

abbrev pub decreases-swaps : goal.decreases-swaps
decreases-swaps l = goal.left-swaps l
