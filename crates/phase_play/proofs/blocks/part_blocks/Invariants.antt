use Rattle.std.proofs.Common.{◌≡◌, map}
use Rattle.phase_play.proofs.Rows.{players_of, readers_of}
use Rattle.phase_play.proofs.blocks.part_blocks.Given as goal

abbrev pub invariant-blocks-2 : goal.invariant-blocks-2
invariant-blocks-2 l = record {
  players_are : l.players.items ≡ map players_of l.yielded;
  rows_are : l.rows.items ≡ map readers_of l.yielded;
}
