use Rattle.std.proofs.Common.{◌≡◌, List, length, take, subst}
use Rattle.dc_door.specs.Centres.{KeptCentre, all_seen}
use Rattle.dc_door.specs.KeptDoors.{lengths_of}
use Rattle.dc_door.proofs.Trails.{none_made, is_begun}
use Rattle.dc_door.proofs.kept_door.KeptDoor.set.Goals as goal

pub invariant_of-self : goal.invariant_of-self
invariant_of-self c =
    let all = subst (λ (kept : List KeptCentre). take (length kept) c.lengths-self-inside.result ≡ lengths_of (all_seen kept)) c.deref.ensures.value c.lengths-self-inside.ensures in
    is_begun c.self.inside.kept.items _ c.self.invariant.number c.self.invariant.all all

pub returns-clause-none : goal.returns-clause-none
returns-clause-none c =
    let all = subst (λ (kept : List KeptCentre). take (length kept) c.lengths-self-inside.result ≡ lengths_of (all_seen kept)) c.deref.ensures.value c.lengths-self-inside.ensures in
    none_made (all_seen c.self.inside.kept.items) _ all
