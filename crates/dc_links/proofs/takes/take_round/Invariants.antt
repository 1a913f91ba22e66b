use Rattle.std.proofs.Common.{◌≡◌}
use Rattle.dc_talk.specs.Acting.{acting}
use Rattle.script_core.specs.Carrying.{route}
use Rattle.dc_worker.specs.Brings.{Receives, incoming}
use Rattle.dc_links.proofs.takes.take_round.Given as goal

abbrev pub invariant-items : goal.invariant-items
invariant-items g l = record {
  place : g.D.Door.place l.door ≡ g.D.Door.place l.fn.door;
  link : l.taker.link ≡ l.link;
  receives : Receives (route l.from l.at) l.number (incoming (acting (g.D.Door.shown l.fn.door) l.fn.log) l.fn.inlet l.fn.taker.taken) (incoming (acting (g.D.Door.shown l.door) l.log) l.inlet l.taker.taken);
  misses : l.taker.misses ≡ l.fn.taker.misses;
}
