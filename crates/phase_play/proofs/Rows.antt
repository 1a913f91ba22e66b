-- Blocks of clients with their readers, before their steps and behind them.
use Rattle.std.proofs.Common.{◌≡◌, ◌<◌, ◌≤◌, ℕ, List, [], ◌∷◌, ◌++◌, inl, inr, length, map, flat_map, refl, sym, ap, ◌∙◌, subst, arith}
use Rattle.std.specs.Prelude.{All, slice_index_or}
use Rattle.std.specs.List.{AllZip}
use Rattle.std.specs.Global.{Vec}
use Rattle.std.proofs.lemmas.Option.{none-some}
use Rattle.std.proofs.lemmas.List.{append-nil}
use Rattle.std.proofs.lemmas.List.Elements.{All-nil, All-cons, All-head, All-tail, All-get_or}
use Rattle.list_core.specs.Members.{In}
use Rattle.list_core.proofs.Members.{In_map}
use Rattle.read_tap.specs.Shows.{ShowsView}
use Rattle.phase_actors.specs.declared.clients.Player.{Player}
use Rattle.phase_actors.specs.declared.clients.Block.{Block}
use Rattle.phase_actors.specs.declared.scene.Scene.{Scene}
use Rattle.phase_actors.specs.Taps.{AreReaders, HaveRead}
use Rattle.phase_actors.specs.Actors.{IsPlayerOf, HasTakenSteps, IsBlockOf, HasBlockPlayed}
use Rattle.phase_actors.proofs.Among.{zip_same}
use Rattle.phase_actors.proofs.Reading.{read_same}
use Rattle.phase_play.specs.Blocks.{AreBlocks}
use Rattle.phase_play.specs.Casts.{AreRow, HasReadRow, HasTakenStepsBy}
use Rattle.phase_play.proofs.Cutting.{in_blocks}
use Rattle.phase_play.proofs.Swapping.{all_front}

-- the clients of a block, and its readers
abbrev pub players_of : Block → Vec Player
players_of block = block.players

abbrev pub readers_of : Block → Vec ShowsView
readers_of block = block.readers

-- ---- lists

-- what holds of all of a list holds of all behind its front
all_behind : {X : Type 0} (P : X → Type 0) (xs ys : List X) → All P (xs ++ ys) → All P ys
all_behind P [] ys all = all
all_behind P (x ∷ xs) ys all = all_behind P xs ys (All-tail P x (xs ++ ys) all)

-- lists that belong together, one behind another
zip_both : {X Y : Type 0} (R : X → Y → Type 0) (xs : List X) (ys : List Y) (us : List X) (vs : List Y) → AllZip R xs ys → AllZip R us vs → AllZip R (xs ++ us) (ys ++ vs)
zip_both R [] [] us vs one two = two
zip_both R [] (y ∷ ys) us vs one two = absurd one
zip_both R (x ∷ xs) [] us vs one two = absurd one
zip_both R (x ∷ xs) (y ∷ ys) us vs one two = (one.0, zip_both R xs ys us vs one.1 two)

-- ---- blocks before their steps

-- where no readers are left these are the blocks
pub blocks_all : (players : List (Vec Player)) (rows : List (Vec ShowsView)) (blocks : List Block) (left : List (Vec ShowsView)) → left ≡ [] → map readers_of blocks ++ left ≡ rows → map players_of blocks ≡ players → AreBlocks players rows blocks
blocks_all players rows blocks left none rows_are players_are = record {
  players_are = players_are;
  rows_are = sym (append-nil (map readers_of blocks)) ∙ (ap (λ left. map readers_of blocks ++ left) (sym none) ∙ rows_are);
}

-- blocks of clients of the scene, with readers of its taps
pub blocks_are : (scene : Scene) (blocks : List Block) → All (IsPlayerOf scene) (in_blocks (map players_of blocks)) → All (AreRow scene) (map readers_of blocks) → All (IsBlockOf scene) blocks
blocks_are scene [] players rows = All-nil (IsBlockOf scene)
blocks_are scene (block ∷ blocks) players rows = All-cons (IsBlockOf scene) block blocks
    (record {
      players = all_front (IsPlayerOf scene) block.players.items (in_blocks (map players_of blocks)) players;
      readers = All-head (AreRow scene) block.readers (map readers_of blocks) rows;
    })
    (blocks_are scene blocks (all_behind (IsPlayerOf scene) block.players.items (in_blocks (map players_of blocks)) players) (All-tail (AreRow scene) block.readers (map readers_of blocks) rows))

-- so is the one at a place
pub block_at : (scene : Scene) (players : List Player) (parts : List (Vec Player)) (rows : List (Vec ShowsView)) (blocks : List Block) (place : ℕ) (block : Block) → in_blocks parts ≡ players → AreBlocks parts rows blocks → All (IsPlayerOf scene) players → All (AreRow scene) rows → place < length blocks → block ≡ slice_index_or blocks place block → IsBlockOf scene block
block_at scene players parts rows blocks place block all are fit wide within is =
    let own : All (IsPlayerOf scene) (in_blocks (map players_of blocks)) = subst (All (IsPlayerOf scene)) (sym (ap in_blocks are.players_are ∙ all)) fit in
    let read : All (AreRow scene) (map readers_of blocks) = subst (All (AreRow scene)) (sym are.rows_are) wide in
    subst (IsBlockOf scene) (sym is) (All-get_or (IsBlockOf scene) blocks place block within (blocks_are scene blocks own read))

-- ---- blocks behind their steps

-- the clients of blocks
pub players_in : (blocks : List Block) → flat_map (λ (block : Block). block.players.items) blocks ≡ in_blocks (map players_of blocks)
players_in [] = refl
players_in (block ∷ blocks) = ap (λ players. block.players.items ++ players) (players_in blocks)

-- clients that took their steps with readers that are there
taken_by : (scene : Scene) (all : List (Vec ShowsView)) (row : List ShowsView) (old new : List Player) → In row ([] ∷ map (λ (row : Vec ShowsView). row.items) all) → AllZip (HasTakenSteps scene row) old new → AllZip (HasTakenStepsBy scene all) old new
taken_by scene all row [] [] there zip = tt
taken_by scene all row [] (q ∷ new) there zip = absurd zip
taken_by scene all row (p ∷ old) [] there zip = absurd zip
taken_by scene all row (p ∷ old) (q ∷ new) there zip = (record { row = row; there = there; taken = zip.0 }, taken_by scene all row old new there zip.1)

-- the clients of all blocks took their steps
pub players_by : (scene : Scene) (all : List (Vec ShowsView)) (blocks later : List Block) → ((row : Vec ShowsView) → In row (map readers_of later) → In row all) → AllZip (HasBlockPlayed scene) blocks later → AllZip (HasTakenStepsBy scene all) (flat_map (λ (block : Block). block.players.items) blocks) (flat_map (λ (block : Block). block.players.items) later)
players_by scene all [] [] there zip = tt
players_by scene all [] (after ∷ later) there zip = absurd zip
players_by scene all (block ∷ blocks) [] there zip = absurd zip
players_by scene all (block ∷ blocks) (after ∷ later) there zip =
    zip_both (HasTakenStepsBy scene all) block.players.items after.players.items (flat_map (λ (block : Block). block.players.items) blocks) (flat_map (λ (block : Block). block.players.items) later)
    (taken_by scene all after.readers.items block.players.items after.players.items (inr (In_map (λ (row : Vec ShowsView). row.items) all after.readers (there after.readers (inl refl)))) zip.0.players)
    (players_by scene all blocks later (λ row is. there row (inr is)) zip.1)

-- their readers saw more
pub rows_by : (scene : Scene) (blocks later : List Block) → AllZip (HasBlockPlayed scene) blocks later → AllZip HasReadRow (map readers_of blocks) (map readers_of later)
rows_by scene [] [] zip = tt
rows_by scene [] (after ∷ later) zip = absurd zip
rows_by scene (block ∷ blocks) [] zip = absurd zip
rows_by scene (block ∷ blocks) (after ∷ later) zip = (zip.0.readers, rows_by scene blocks later zip.1)

-- ---- a phase in one thread

-- no readers are readers of any taps
pub no_readers : (scene : Scene) (readers : List ShowsView) → readers ≡ [] → AreReaders scene.taps.now readers
no_readers scene readers none = subst (AreReaders scene.taps.now) (sym none) (record { few = omega arith; each = λ place reader there. absurd (none-some reader there) })

-- none came of none
none_read : (old new : List ShowsView) → old ≡ [] → HaveRead old new → new ≡ []
none_read old new none read = go new (subst (λ (old : List ShowsView). HaveRead old new) none read)
  where
    go : (new : List ShowsView) → HaveRead [] new → new ≡ []
    go [] read = refl
    go (reader ∷ new) read = absurd read

-- clients that took their steps without readers
pub played_blind : (scene : Scene) (rows : List (Vec ShowsView)) (old new : Block) → old.readers.items ≡ [] → HasBlockPlayed scene old new → AllZip (HasTakenStepsBy scene rows) old.players.items new.players.items
played_blind scene rows old new none played = taken_by scene rows new.readers.items old.players.items new.players.items (inl (none_read old.readers.items new.readers.items none played.readers)) played.players

-- readers that saw no more
pub rows_same : (rows : List (Vec ShowsView)) → AllZip HasReadRow rows rows
rows_same rows = zip_same HasReadRow (λ row. read_same row.items) rows
