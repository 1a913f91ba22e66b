use Rattle.std.specs.List.{AllZip}
use Rattle.phase_play.specs.Crews.{WillPlay}
use Rattle.phase_play.proofs.crews.begin_crews.Given as goal

abbrev pub invariant-crews : goal.invariant-crews
invariant-crews g l = AllZip (WillPlay l.fn.scene) l.yielded l.begun.items
