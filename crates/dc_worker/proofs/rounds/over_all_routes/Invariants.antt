use Rattle.std.proofs.Common.{◌≡◌}
use Rattle.dc_talk.specs.Acting.{acting}
use Rattle.script_core.specs.Carrying.{InTurn}
use Rattle.dc_worker.specs.Work.{CarriesSuch}
use Rattle.dc_worker.specs.Rounds.{Does, routes_of}
use Rattle.dc_worker.proofs.rounds.over_all_routes.Given as goal

abbrev pub invariant-centres : goal.invariant-centres
invariant-centres g l = record {
  place : g.D.Door.place l.door ≡ g.D.Door.place l.fn.door;
  does : CarriesSuch (InTurn (Does l.round) (routes_of l.n l.before)) (acting (g.D.Door.shown l.fn.door) l.fn.log) (acting (g.D.Door.shown l.door) l.log);
}
