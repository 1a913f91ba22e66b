use Rattle.std.proofs.Common.{◌≡◌, drop, []}
use Rattle.std.specs.List.Sorted.{IsStrictlySortedBy}
use Rattle.std.specs.Map.{keys_of}
use Rattle.tally_core.specs.declared.place.Place.{Place}
use Rattle.tally_core.specs.Places.{place_cmp}
use Rattle.tally_core.specs.Listing.{is_of}
use Rattle.tally_core.proofs.Filling.{left_or}
use Rattle.tally_core.proofs.listing.part_of.Given as goal

abbrev pub invariant-loop-place : goal.invariant-loop-place
invariant-loop-place g l = record {
  told : (q : Place) → left_or (is_of l.live) (drop l.place-index l.list) l.cells.entries q ≡ left_or (is_of l.live) l.fn.list [] q;
  sorted : IsStrictlySortedBy place_cmp (keys_of (drop l.place-index l.list));
}
