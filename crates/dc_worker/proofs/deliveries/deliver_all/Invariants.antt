use Rattle.std.proofs.Common.{◌≡◌}
use Rattle.dc_talk.specs.Acting.{acting}
use Rattle.dc_worker.proofs.Delivering.{DeliversOn}
use Rattle.dc_worker.proofs.deliveries.deliver_all.Given as goal

abbrev pub invariant-items : goal.invariant-items
invariant-items g l = record {
  place : g.D.Door.place l.door ≡ g.D.Door.place l.fn.door;
  delivers : DeliversOn l.to l.fn.items l.item-iterator.rest.items (l.fn.last, l.end) (acting (g.D.Door.shown l.fn.door) l.fn.log) (acting (g.D.Door.shown l.door) l.log);
}
