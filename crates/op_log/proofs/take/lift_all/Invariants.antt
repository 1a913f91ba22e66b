use Rattle.std.proofs.Common.{◌≡◌, ◌≢◌, true, false, take}
use Rattle.list_core.specs.Members.{In}
use Rattle.vv_core.specs.declared.stamp.Stamp.{Stamp}
use Rattle.stamp_index.specs.declared.places.Place.{Place}
use Rattle.stamp_index.specs.Places.{has_place, place_of}
use Rattle.op_log.proofs.take.lift_all.Given as goal

abbrev pub invariant-loop-stamp : goal.invariant-loop-stamp
invariant-loop-stamp l = record {
  apart : (p : Place) → p.number ≢ l.number → has_place l.places.keys p ≡ has_place l.fn.places.keys p;
  gone : (s : Stamp) → In s (take l.stamp-index l.stamps) → has_place l.places.keys (place_of l.number s) ≡ false;
  fewer : (p : Place) → has_place l.places.keys p ≡ true → has_place l.fn.places.keys p ≡ true;
}
