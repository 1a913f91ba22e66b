use Rattle.std.specs.Prelude.{flat_map}
use Rattle.std.specs.List.{range_with_len}
use Rattle.run_book.specs.Moves.{worker_turn}
use Rattle.world_core.specs.Runs.{MakesMoves}
use Rattle.world_core.proofs.phases.play_workers.Given as goal

abbrev pub invariant-centres : goal.invariant-centres
invariant-centres l = MakesMoves (flat_map (worker_turn l.number l.fn.world.script.rounds l.turn) (range_with_len 1 l.before)) l.fn.world l.world
