use Rattle.std.proofs.Common.{◌≡◌, ◌⊎◌, drop}
use Rattle.list_core.specs.Members.{In}
use Rattle.ids_core.specs.declared.ids.OpId.{OpId}
use Rattle.tally_core.specs.Places.{place}
use Rattle.tally_core.specs.Parted.{IsParted, seen_of}
use Rattle.tally_core.specs.Room.{CanFall}
use Rattle.tally_core.proofs.room.make_room.Given as goal

abbrev pub invariant-loop-id : goal.invariant-loop-id
invariant-loop-id g l = IsParted l.cells × (seen_of l.cells ≡ seen_of l.fn.cells) × ((id : OpId) → In id l.over → In id (drop l.id-index l.over) ⊎ CanFall l.cells (place l.name id))
