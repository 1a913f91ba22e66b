use Rattle.std.proofs.Common.{◌≡◌, ◌⊎◌, true, take}
use Rattle.list_core.specs.Members.{In}
use Rattle.vv_core.specs.declared.stamp.Stamp.{Stamp}
use Rattle.stamp_index.specs.declared.places.Place.{Place}
use Rattle.stamp_index.specs.Places.{has_place, place_of}
use Rattle.op_log.proofs.stamps.note_all.Given as goal

abbrev pub invariant-loop-stamp : goal.invariant-loop-stamp
invariant-loop-stamp l = record {
  there : (s : Stamp) → In s (take l.stamp-index l.stamps) → has_place l.places.keys (place_of l.number s) ≡ true;
  kept : (p : Place) → has_place l.fn.places.keys p ≡ true → has_place l.places.keys p ≡ true;
  from : (p : Place) → has_place l.places.keys p ≡ true → (has_place l.fn.places.keys p ≡ true) ⊎ ((s : Stamp) × In s (take l.stamp-index l.stamps) × (p ≡ place_of l.number s));
}
