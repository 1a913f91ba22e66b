use Rattle.std.proofs.Common.{◌≡◌, length}
use Rattle.std.specs.Prelude.{replicate}
use Rattle.dc_talk.specs.Acting.{acting}
use Rattle.dc_links.specs.Links.{AreTakers}
use Rattle.run_sections.specs.Orders.{takes_some}
use Rattle.phase_actors.proofs.Rounds.{HasMadeRounds}
use Rattle.phase_actors.proofs.receivers.receive_rounds.Given as goal

abbrev pub invariant-rounds : goal.invariant-rounds
invariant-rounds g l = record {
  place : g.D.Door.place l.door ≡ g.D.Door.place l.fn.door;
  ends : AreTakers l.links l.centre l.takers.items;
  inlets : length l.inlets.items ≡ l.n;
  made : HasMadeRounds l.n l.centre l.section (replicate l.before takes_some) (record { acting = acting (g.D.Door.shown l.fn.door) l.fn.log; takers = l.fn.takers.items; inlets = l.fn.inlets.items }) (record { acting = acting (g.D.Door.shown l.door) l.log; takers = l.takers.items; inlets = l.inlets.items });
}
