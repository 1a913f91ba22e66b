use Rattle.std.proofs.Common.{◌≡◌, List, length, take, subst}
use Rattle.dc_door.specs.Centres.{KeptCentre, all_seen}
use Rattle.dc_door.specs.KeptDoors.{lengths_of}
use Rattle.dc_door.proofs.Trails.{none_made, is_begun}
use Rattle.dc_door.proofs.kept_door.KeptDoor.new.Goals as goal
use Rattle.dc_door.proofs.kept_door.KeptDoor.new.Goals.{After-lengths-since}

-- all entries were there before
all_before : (c : After-lengths-since) → take (length c.args.kept.items) c.lengths-since.result ≡ lengths_of (all_seen c.args.kept.items)
all_before c = subst (λ (kept : List KeptCentre). take (length kept) c.lengths-since.result ≡ lengths_of (all_seen kept)) c.deref.ensures.value c.lengths-since.ensures

pub invariant_of-result : goal.invariant_of-result
invariant_of-result c = is_begun c.args.kept.items _ c.requires.number c.requires.kept (all_before c)

pub returns-clause-none : goal.returns-clause-none
returns-clause-none c = none_made (all_seen c.args.kept.items) _ (all_before c)
