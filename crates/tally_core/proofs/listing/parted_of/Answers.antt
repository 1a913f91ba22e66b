use Rattle.tally_core.proofs.Stored.{parts_apart, parts_entries}
use Rattle.tally_core.proofs.listing.parted_of.Goals as goal

pub returns-clause-parted : goal.returns-clause-parted
returns-clause-parted g c = parts_apart _ _ c.args.list.now c.requires.each c.in_ok-part_of.ensures c.in_ok-part_of-2.ensures

pub returns-clause-view : goal.returns-clause-view
returns-clause-view g c = parts_entries _ _ c.args.list.now c.requires c.in_ok-part_of.ensures c.in_ok-part_of-2.ensures
