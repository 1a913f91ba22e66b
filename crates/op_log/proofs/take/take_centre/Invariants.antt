use Rattle.std.proofs.Common.{◌≡◌, true, length}
use Rattle.std.specs.Prelude.{not, filter}
use Rattle.stamp_index.specs.declared.places.Place.{Place}
use Rattle.op_log.specs.Logs.{is_inside}
use Rattle.stamp_index.specs.Places.{has_place}
use Rattle.op_log.specs.Tables.{IsTable}
use Rattle.op_log.proofs.take.take_centre.Given as goal

abbrev pub invariant-loop-place : goal.invariant-loop-place
invariant-loop-place l = record {
  table : IsTable l.slots.entries l.dots.entries l.places.keys;
  left : filter (λ e. not (is_inside l.base e.1)) l.slots.entries ≡ filter (λ e. not (is_inside l.base e.1)) l.fn.slots.entries;
  fewer : (p : Place) → has_place l.places.keys p ≡ true → has_place l.fn.places.keys p ≡ true;
}

abbrev pub decreases-loop-place : goal.decreases-loop-place
decreases-loop-place l = length l.slots.entries
