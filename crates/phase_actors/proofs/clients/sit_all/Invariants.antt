use Rattle.std.proofs.Common.{◌≡◌, map}
use Rattle.std.specs.Prelude.{All}
use Rattle.phase_actors.specs.Clients.{seat_of}
use Rattle.phase_actors.specs.Actors.{IsSeatOf}
use Rattle.phase_actors.proofs.clients.sit_all.Given as goal

abbrev pub invariant-players : goal.invariant-players
invariant-players g l = record {
  are : All (IsSeatOf l.fn.scene) l.seats.items;
  seats_are : l.seats.items ≡ map seat_of l.yielded;
}
