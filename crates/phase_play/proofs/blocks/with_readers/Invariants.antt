use Rattle.std.proofs.Common.{◌≡◌, ◌++◌, map}
use Rattle.phase_play.proofs.Rows.{players_of, readers_of}
use Rattle.phase_play.proofs.blocks.with_readers.Given as goal

abbrev pub invariant-blocks-2 : goal.invariant-blocks-2
invariant-blocks-2 l = record {
  players_are : map players_of l.all.items ≡ l.yielded;
  rows_are : map readers_of l.all.items ++ l.rows.items ≡ l.fn.rows.items;
}
