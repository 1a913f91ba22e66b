use Rattle.std.proofs.Common.{◌≡◌, false, take}
use Rattle.run_book.specs.Moves.{moves_from}
use Rattle.world_core.specs.Runs.{HasPlayed}
use Rattle.world_core.proofs.sections.play_all.Given as goal

abbrev pub invariant-sections : goal.invariant-sections
invariant-sections g l = record {
  number : l.number ≡ l.section-index;
  script : l.world.script ≡ l.script;
  fresh : l.world.spent ≡ false;
  played : HasPlayed (moves_from l.script 1 (take l.section-index l.sections)) l.world;
}
