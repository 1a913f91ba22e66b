use Rattle.std.proofs.Common.{◌≡◌, map}
use Rattle.dc_door.specs.Centres.{CentreTrail, all_seen}
use Rattle.run_table.proofs.trails.trails_of.Given as goal

abbrev pub invariant-kept : goal.invariant-kept
invariant-kept l = l.trails ≡ map (λ (centre : CentreTrail). centre.entries) (all_seen l.yielded)
