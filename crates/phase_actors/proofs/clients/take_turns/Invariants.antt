use Rattle.std.specs.List.{AllZip}
use Rattle.phase_actors.specs.Taps.{HaveRead}
use Rattle.phase_actors.specs.Actors.{HasSeatGone}
use Rattle.phase_actors.proofs.clients.take_turns.Given as goal

abbrev pub invariant-turns : goal.invariant-turns
invariant-turns g l = record {
  read : HaveRead l.initial.readers.items l.readers.items;
  gone : AllZip (HasSeatGone l.fn.scene l.initial.readers.items l.readers.items) l.initial.seats.items l.seats.items;
}
