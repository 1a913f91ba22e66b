use Rattle.std.proofs.Common.{◌≡◌}
use Rattle.dc_talk.specs.Acting.{acting}
use Rattle.dc_links.specs.Links.{AreGivers}
use Rattle.phase_actors.specs.Workers.{PlaysSender}
use Rattle.phase_actors.proofs.senders.send_rounds.Given as goal

abbrev pub invariant-rounds : goal.invariant-rounds
invariant-rounds g l = record {
  place : g.D.Door.place l.door ≡ g.D.Door.place l.fn.door;
  ends : AreGivers l.links l.centre l.givers.items;
  plays : PlaysSender l.n l.centre l.section l.before (record { acting = acting (g.D.Door.shown l.fn.door) l.fn.log; givers = l.fn.givers.items }) (record { acting = acting (g.D.Door.shown l.door) l.log; givers = l.givers.items });
}
