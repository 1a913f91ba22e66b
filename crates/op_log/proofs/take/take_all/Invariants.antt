use Rattle.std.proofs.Common.{◌≡◌, ◌<◌, ℕ}
use Rattle.std.specs.Prelude.{not, filter}
use Rattle.list_core.specs.Members.{In}
use Rattle.stamp_index.specs.declared.places.Place.{Place}
use Rattle.op_log.specs.Logs.{is_inside}
use Rattle.stamp_index.specs.Places.{reached_of}
use Rattle.op_log.specs.Tables.{IsTable}
use Rattle.op_log.proofs.take.take_all.Given as goal

abbrev pub invariant-loop-centre : goal.invariant-loop-centre
invariant-loop-centre l = record {
  table : IsTable l.slots.entries l.dots.entries l.places.keys;
  left : filter (λ e. not (is_inside l.base e.1)) l.slots.entries ≡ filter (λ e. not (is_inside l.base e.1)) l.fn.slots.entries;
  none : (centre : ℕ) → centre < l.centre → (p : Place) → In p (reached_of l.base centre l.places.keys) → ⊥;
}
