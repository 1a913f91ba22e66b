use Rattle.std.proofs.Common.{take}
use Rattle.std.specs.List.{filter_map}
use Rattle.run_book.specs.Moves.{client_turn}
use Rattle.world_core.specs.Runs.{MakesMoves}
use Rattle.world_core.proofs.phases.play_clients.Given as goal

abbrev pub invariant-those : goal.invariant-those
invariant-those l = MakesMoves (filter_map (client_turn l.number l.section l.turn) (take l.client-index l.clients)) l.fn.world l.world
