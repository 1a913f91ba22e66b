use Rattle.std.specs.List.{AllZip}
use Rattle.phase_actors.specs.Taps.{HaveRead}
use Rattle.phase_actors.specs.Actors.{HasSeatGone}
use Rattle.phase_actors.proofs.clients.turn_all.Given as goal

abbrev pub invariant-places : goal.invariant-places
invariant-places g l = record {
  read : HaveRead l.initial.readers.items l.readers.items;
  gone : AllZip (HasSeatGone l.fn.scene l.initial.readers.items l.readers.items) l.initial.seats.items l.seats.items;
}
