use Rattle.std.proofs.Common.{◌≡◌, map}
use Rattle.phase_play.specs.declared.crews.Crew.{Crew}
use Rattle.thread_run.specs.Closing.{half_of}
use Rattle.thread_run.proofs.closing.halve.Given as goal

abbrev pub invariant-crews : goal.invariant-crews
invariant-crews l = record {
  halves : l.halves.items ≡ map half_of l.yielded;
  givers : l.givers.items ≡ map (λ (crew : Crew). crew.sender.givers) l.yielded;
}
