use Rattle.std.proofs.Common.{◌≡◌}
use Rattle.dc_talk.specs.Acting.{acting}
use Rattle.dc_links.specs.Links.{AreGivers}
use Rattle.dc_links.specs.Rounds.{SendsOver}
use Rattle.dc_links.proofs.sends.send_all.Given as goal

abbrev pub invariant-others : goal.invariant-others
invariant-others g l = record {
  place : g.D.Door.place l.door ≡ g.D.Door.place l.fn.door;
  ends : AreGivers l.links l.from l.givers.items;
  sends : SendsOver l.before l.from l.fn.givers.items l.givers.items (acting (g.D.Door.shown l.fn.door) l.fn.log) (acting (g.D.Door.shown l.door) l.log);
}
