use Rattle.std.proofs.Common.{◌≡◌, take}
use Rattle.pair_centre.specs.Replays.{TakesItems}
use Rattle.pair_centre.proofs.replaying.replay.Given as goal

abbrev pub invariant-loop-item : goal.invariant-loop-item
invariant-loop-item l = record {
  settings : l.centre.settings ≡ l.fn.centre.settings;
  place : l.place ≡ l.item-index;
  takes : TakesItems l.fn.centre.settings l.fn.centre l.centre (take l.item-index l.items);
}
