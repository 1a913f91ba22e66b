use Rattle.std.proofs.Common.{rules, ◌≡◌, sym, ap, ◌∙◌, subst}
use Rattle.dc_host.specs.HostDoors.{new_door}
use Rattle.phase_actors.specs.Clients.{SeatView}
use Rattle.phase_actors.proofs.clients.stand.Goals as goal

pub returns : goal.returns
returns g c = λ actor.
    let seat = c.seat.inside in
    let rows : c.part.result.items ≡ seat.door.passes = search rules in
    let own : seat.door.actor ≡ seat.log.actor = subst (λ (seat : SeatView). seat.door.actor ≡ seat.log.actor) (sym c.seat.view_is) actor in
    let old : SeatView = record { client = seat.client; stub = seat.stub; door = new_door seat.door.actor seat.door.passes; log = seat.log; taken = 0 } in
    let new : SeatView = record { client = seat.client; stub = seat.stub; door = new_door seat.log.actor c.part.result.items; log = seat.log; taken = 0 } in
    let same : new ≡ old = λ j. record { client = seat.client; stub = seat.stub; door = new_door (sym own j) (rows j); log = seat.log; taken = 0 } in
    same ∙ ap (λ (seat : SeatView). record seat { door = new_door seat.door.actor seat.door.passes; taken = 0 }) c.seat.view_is
