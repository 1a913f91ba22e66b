use Rattle.std.proofs.Common.{◌≡◌, ◌<◌, ℕ}
use Rattle.std.specs.Prelude.{flat_map, All}
use Rattle.std.specs.List.{filter_map, range_with_len}
use Rattle.script_core.specs.Steps.{IsCount}
use Rattle.run_book.specs.Moves.{client_turn, turn_moves}
use Rattle.world_core.specs.Runs.{MakesMoves}
use Rattle.world_core.proofs.phases.play_phase.Given as goal

abbrev pub invariant-turns : goal.invariant-turns
invariant-turns l = record {
  makes : MakesMoves (flat_map (turn_moves l.fn.world.script l.number l.section) (range_with_len 1 l.before)) l.fn.world l.world;
  counts : All (IsCount l.fn.world.script.clients) l.left.items;
  same : (turn : ℕ) → l.before < turn → filter_map (client_turn l.number l.section turn) l.left.items ≡ filter_map (client_turn l.number l.section turn) (range_with_len 1 l.fn.world.script.clients);
}
