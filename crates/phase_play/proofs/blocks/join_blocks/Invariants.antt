use Rattle.std.proofs.Common.{◌≡◌, flat_map}
use Rattle.std.specs.Global.{Vec}
use Rattle.phase_actors.specs.declared.clients.Player.{Player}
use Rattle.phase_play.proofs.blocks.join_blocks.Given as goal

abbrev pub invariant-blocks-2 : goal.invariant-blocks-2
invariant-blocks-2 l = l.players.items ≡ flat_map (λ (block : Vec Player). block.items) l.yielded
