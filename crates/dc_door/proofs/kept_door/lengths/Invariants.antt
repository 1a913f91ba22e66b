use Rattle.std.proofs.Common.{◌≡◌, length, take}
use Rattle.ids_core.specs.declared.limits.TheConstants.{MOST_CENTRES}
use Rattle.dc_door.specs.Centres.{all_seen}
use Rattle.dc_door.specs.KeptDoors.{lengths_of}
use Rattle.dc_door.proofs.kept_door.lengths.Given as goal

abbrev pub invariant-kept : goal.invariant-kept
invariant-kept l = (length l.lengths ≡ MOST_CENTRES) × (take l.place l.lengths ≡ lengths_of (all_seen (take l.place l.kept)))
