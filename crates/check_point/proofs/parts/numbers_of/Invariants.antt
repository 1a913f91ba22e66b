use Rattle.std.proofs.Common.{◌≡◌, ℕ}
use Rattle.std.specs.Prelude.{◌==◌}
use Rattle.std.specs.List.{IsDistinct}
use Rattle.std.specs.Map.{lookup, keys_of}
use Rattle.std.specs.Option.{option_or}
use Rattle.check_point.specs.PointParts.{number_entries}
use Rattle.check_point.proofs.parts.numbers_of.Given as goal

abbrev pub invariant-loop-part : goal.invariant-loop-part
invariant-loop-part l = record {
  told : (client : ℕ) → option_or (lookup (λ c. client == c) (number_entries l.part-iterator.rest.items)) (lookup (λ c. client == c) l.table.entries) ≡ lookup (λ c. client == c) (number_entries l.fn.parts);
  apart : IsDistinct (λ a b. a == b) (keys_of (number_entries l.part-iterator.rest.items));
}
