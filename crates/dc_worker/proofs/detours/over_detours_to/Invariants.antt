use Rattle.std.proofs.Common.{◌≡◌}
use Rattle.dc_talk.specs.Acting.{acting}
use Rattle.script_core.specs.Carrying.{InTurn}
use Rattle.dc_worker.specs.Work.{CarriesSuch}
use Rattle.dc_worker.specs.Rounds.{DoesRelay, detours_to}
use Rattle.dc_worker.proofs.detours.over_detours_to.Given as goal

abbrev pub invariant-centres : goal.invariant-centres
invariant-centres g l = record {
  place : g.D.Door.place l.door ≡ g.D.Door.place l.fn.door;
  does : CarriesSuch (InTurn DoesRelay (detours_to l.from l.origin l.before)) (acting (g.D.Door.shown l.fn.door) l.fn.log) (acting (g.D.Door.shown l.door) l.log);
}
