use Rattle.std.proofs.Common.{◌≡◌, ◌++◌, map, length}
use Rattle.std.specs.List.{range_with_len}
use Rattle.phase_actors.specs.declared.clients.Player.{Player}
use Rattle.thread_run.proofs.casting.players_of.Given as goal

abbrev pub invariant-stubs : goal.invariant-stubs
invariant-stubs l = record {
  number : l.client ≡ length l.yielded;
  numbers : map (λ (player : Player). player.client) l.players.items ≡ range_with_len 1 l.client;
  callers_are : map (λ (player : Player). player.caller) l.players.items ++ l.callers.items ≡ l.fn.callers.items;
  stubs_are : map (λ (player : Player). player.stub) l.players.items ≡ l.yielded;
}
