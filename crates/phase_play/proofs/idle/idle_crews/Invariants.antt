use Rattle.std.specs.List.{AllZip}
use Rattle.phase_play.specs.Casts.{HasCrewPlayed}
use Rattle.phase_play.proofs.idle.idle_crews.Given as goal

abbrev pub invariant-crews : goal.invariant-crews
invariant-crews g l = AllZip (HasCrewPlayed l.fn.scene) l.yielded l.played.items
