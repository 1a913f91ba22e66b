use Rattle.std.proofs.Common.{◌≡◌}
use Rattle.dc_talk.specs.Acting.{acting}
use Rattle.phase_actors.specs.Workers.{PlaysPruner}
use Rattle.phase_actors.proofs.reporters.prune_rounds.Given as goal

abbrev pub invariant-rounds : goal.invariant-rounds
invariant-rounds g l = record {
  place : g.D.Door.place l.door ≡ g.D.Door.place l.fn.door;
  plays : PlaysPruner l.centre l.section l.before (acting (g.D.Door.shown l.fn.door) l.fn.log) (acting (g.D.Door.shown l.door) l.log);
}
