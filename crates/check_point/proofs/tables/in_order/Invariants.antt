use Rattle.std.proofs.Common.{◌≡◌}
use Rattle.std.specs.List.{IsDistinct}
use Rattle.std.specs.Map.{lookup, keys_of}
use Rattle.std.specs.Option.{option_or}
use Rattle.std.specs.BTreeMap.{is_at}
use Rattle.check_point.proofs.tables.in_order.Given as goal

abbrev pub invariant-loop-key : goal.invariant-loop-key
invariant-loop-key g l = record {
  told : (q : g.row.K.Denot) → option_or (lookup (g.K.PartialEq.eq q) l.key-iterator) (lookup (is_at (g.K.Ord.cmp q)) l.sorted.entries) ≡ lookup (g.K.PartialEq.eq q) l.table.entries;
  apart : IsDistinct g.K.PartialEq.eq (keys_of l.key-iterator);
}
