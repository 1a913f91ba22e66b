use Rattle.std.proofs.Common.{◌≡◌, length}
use Rattle.dc_talk.specs.Acting.{acting}
use Rattle.dc_links.specs.Links.{rows_of, AreTakers}
use Rattle.dc_links.specs.Rounds.{inward, DrainsOver}
use Rattle.dc_links.proofs.drains.drain_all.Given as goal

abbrev pub invariant-others : goal.invariant-others
invariant-others g l = record {
  place : g.D.Door.place l.door ≡ g.D.Door.place l.fn.door;
  ends : AreTakers l.links l.to l.takers.items;
  number : length l.inlets.items ≡ l.n;
  drains : DrainsOver l.before l.to (rows_of l.givers) (inward l.fn.takers.items l.fn.inlets.items) (inward l.takers.items l.inlets.items) (acting (g.D.Door.shown l.fn.door) l.fn.log) (acting (g.D.Door.shown l.door) l.log);
}
