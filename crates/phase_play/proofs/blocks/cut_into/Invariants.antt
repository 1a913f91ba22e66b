use Rattle.std.proofs.Common.{◌≡◌, ◌≤◌, ◌+◌, ◌-◌, ◌*◌, ◌++◌, length, flat_map}
use Rattle.std.specs.Prelude.{All}
use Rattle.std.specs.Global.{Vec}
use Rattle.phase_actors.specs.declared.clients.Player.{Player}
use Rattle.phase_play.proofs.blocks.cut_into.Given as goal

abbrev pub invariant-blocks-2 : goal.invariant-blocks-2
invariant-blocks-2 l = record {
  all : flat_map (λ (block : Vec Player). block.items) l.blocks.items ++ l.rest.items ≡ l.fn.players.items;
  number : length l.blocks.items ≡ l.place;
  each : All (λ (block : Vec Player). (l.size ≤ length block.items) × (length block.items ≤ l.size + 1)) l.blocks.items;
  left : length l.rest.items ≡ (l.count - l.place) * l.size + (l.longer - l.place);
}
