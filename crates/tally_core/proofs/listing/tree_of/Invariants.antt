use Rattle.std.proofs.Common.{◌≡◌}
use Rattle.std.specs.List.Sorted.{IsStrictlySortedBy}
use Rattle.std.specs.Map.{keys_of}
use Rattle.tally_core.specs.declared.place.Place.{Place}
use Rattle.tally_core.specs.Places.{place_cmp}
use Rattle.tally_core.specs.Listing.{is_there}
use Rattle.tally_core.proofs.Filling.{left_or}
use Rattle.tally_core.proofs.listing.tree_of.Given as goal

abbrev pub invariant-loop-place : goal.invariant-loop-place
invariant-loop-place g l = record {
  told : (q : Place) → left_or is_there l.place-iterator l.all.entries q ≡ left_or is_there l.fn.owed.entries l.fn.live.entries q;
  sorted : IsStrictlySortedBy place_cmp (keys_of l.place-iterator);
}
