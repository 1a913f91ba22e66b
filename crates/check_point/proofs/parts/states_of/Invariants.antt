use Rattle.std.proofs.Common.{◌≡◌}
use Rattle.std.specs.List.{IsDistinct}
use Rattle.std.specs.Map.{lookup, keys_of}
use Rattle.std.specs.Option.{option_or}
use Rattle.ids_core.specs.declared.object.ObjectId.{ObjectId}
use Rattle.ids_core.specs.Ids.{same_object}
use Rattle.check_point.specs.PointParts.{state_entries}
use Rattle.check_point.proofs.parts.states_of.Given as goal

abbrev pub invariant-loop-part : goal.invariant-loop-part
invariant-loop-part l = record {
  told : (o : ObjectId) → option_or (lookup (same_object o) (state_entries l.part-iterator.rest.items)) (lookup (same_object o) l.table.entries) ≡ lookup (same_object o) (state_entries l.fn.parts);
  apart : IsDistinct same_object (keys_of (state_entries l.part-iterator.rest.items));
}
