use Rattle.std.proofs.Common.{◌-◌, length}
use Rattle.run_table.specs.Dealing.{line_of}
use Rattle.phase_actors.specs.Taps.{HaveRead}
use Rattle.phase_actors.specs.Actors.{HasSeatGone}
use Rattle.phase_actors.proofs.clients.end_one.Given as goal

abbrev pub invariant-steps : goal.invariant-steps
invariant-steps g l = record {
  read : HaveRead l.initial.readers.items l.readers.items;
  gone : HasSeatGone l.fn.scene l.initial.readers.items l.readers.items l.initial.at l.at;
}

abbrev pub decreases-steps : goal.decreases-steps
decreases-steps g l = length (line_of l.fn.scene.dealt.now l.initial.at.client) - l.at.taken
