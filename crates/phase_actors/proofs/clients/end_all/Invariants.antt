use Rattle.std.specs.List.{AllZip}
use Rattle.phase_actors.specs.Taps.{HaveRead}
use Rattle.phase_actors.specs.Actors.{HasEnded}
use Rattle.phase_actors.proofs.clients.end_all.Given as goal

abbrev pub invariant-seats : goal.invariant-seats
invariant-seats g l = record {
  read : HaveRead l.fn.readers.items l.readers.items;
  ended : AllZip (HasEnded l.fn.scene l.fn.readers.items l.readers.items) l.yielded l.players.items;
}
