use Rattle.std.proofs.Common.{◌≡◌, take}
use Rattle.dc_centre.proofs.outbox_parts.copies_of.Given as goal

abbrev pub invariant-records : goal.invariant-records
invariant-records l = l.copies ≡ take l.place l.records.items
