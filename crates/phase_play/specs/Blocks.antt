-- Clients in blocks, one for each thread.
use Rattle.std.specs.Prelude.{◌≡◌, ◌≤◌, ◌+◌, ℕ, length, map, flat_map, List, All}
use Rattle.std.specs.Global.{Vec}
use Rattle.read_tap.specs.Shows.{ShowsView}
use Rattle.phase_actors.specs.declared.clients.Player.{Player}
use Rattle.phase_actors.specs.declared.clients.Block.{Block}
use Rattle.phase_play.specs.declared.blocks.Clients.{Clients}

-- none is empty, and their lengths differ by one at most
pub record AreEven (blocks : List (Vec Player)) : Type 0 where
  pub size : ℕ
  pub some : 1 ≤ size
  pub each : All (λ block. (size ≤ length block.items) × (length block.items ≤ size + 1)) blocks

-- blocks of these clients, with these readers
pub record AreBlocks (players : List (Vec Player)) (rows : List (Vec ShowsView)) (blocks : List Block) : Type 0 where
  pub players_are : map (λ (block : Block). block.players) blocks ≡ players
  pub rows_are : map (λ (block : Block). block.readers) blocks ≡ rows

-- the clients of blocks, and apart from them their readers
pub record ArePartsOf (blocks : List Block) (parts : Clients) : Type 0 where
  pub players_are : parts.players.items ≡ flat_map (λ (block : Block). block.players.items) blocks
  pub rows_are : parts.rows.items ≡ map (λ (block : Block). block.readers) blocks
