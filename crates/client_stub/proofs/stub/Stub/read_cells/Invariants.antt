use Rattle.std.proofs.Common.{◌≡◌, take}
use Rattle.client_stub.specs.Playing.{IsLinkBehind, beside}
use Rattle.client_stub.proofs.CellReads.{HasReadNames}
use Rattle.client_stub.proofs.stub.Stub.read_cells.Given as goal

abbrev pub invariant-cells : goal.invariant-cells
invariant-cells g l = record {
  place : g.D.Door.place l.door ≡ g.D.Door.place l.fn.door;
  reads : HasReadNames l.word l.share (take l.name-index l.name-items) l.numbers.items (beside l.fn.self (g.D.Door.shown l.fn.door) l.fn.log) (beside l.self (g.D.Door.shown l.door) l.log);
  linked : IsLinkBehind (g.D.Door.shown l.door) l.self.client;
}
