use Rattle.std.proofs.Common.{◌≡◌}
use Rattle.client_stub.specs.Playing.{IsLinkBehind, beside}
use Rattle.client_stub.specs.Errands.{room}
use Rattle.client_stub.proofs.Flushes.{HasFlushed}
use Rattle.client_stub.proofs.stub.Stub.flush.Given as goal

abbrev pub invariant-pushes : goal.invariant-pushes
invariant-pushes g l = record {
  place : g.D.Door.place l.door ≡ g.D.Door.place l.fn.door;
  flushed : HasFlushed (beside l.fn.self (g.D.Door.shown l.fn.door) l.fn.log) (beside l.self (g.D.Door.shown l.door) l.log);
  linked : IsLinkBehind (g.D.Door.shown l.door) l.self.client;
}

abbrev pub decreases-pushes : goal.decreases-pushes
decreases-pushes g l = room (beside l.self (g.D.Door.shown l.door) l.log)
