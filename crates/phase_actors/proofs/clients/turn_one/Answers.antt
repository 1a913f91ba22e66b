use Rattle.std.proofs.Common.{◌≡◌, ◌<◌, ◌+◌, length, refl, sym, subst, arith}
use Rattle.script_core.specs.Steps.{IsCount}
use Rattle.run_table.specs.Dealing.{line_of}
use Rattle.phase_actors.specs.Clients.{SeatView}
use Rattle.phase_actors.specs.Actors.{IsSeatOf, HasTurnedSeat}
use Rattle.phase_actors.proofs.Seating.{dealt_few, seat_turned}
use Rattle.phase_actors.proofs.clients.turn_one.Goals as goal

pub overflow_add-turn : goal.overflow_add-turn
overflow_add-turn g c =
    let scene = c.args.scene in
    let seat = c.seat.inside in
    let left : seat.taken < length (line_of scene.dealt.now seat.client) = subst (λ (seat : SeatView). seat.taken < length (line_of scene.dealt.now seat.client)) (sym c.seat.view_is) c.requires.left in
    let count : IsCount scene.script.now.clients seat.client = subst (λ (seat : SeatView). IsCount scene.script.now.clients seat.client) (sym c.seat.view_is) c.requires.seat.client in
    omega (arith, left, dealt_few scene.script.now scene.section.now scene.dealt.now seat.client c.requires.scene.phase count)

pub take_turn-requires-clause-own : goal.take_turn-requires-clause-own
take_turn-requires-clause-own g c = subst (λ (seat : SeatView). seat.stub.client.client ≡ seat.client) (sym c.seat.view_is) c.requires.seat.own

pub returns-clause-turned : goal.returns-clause-turned
returns-clause-turned g c =
    let scene = c.args.scene in
    let seat = c.seat.inside in
    let old : SeatView = record { client = seat.client; stub = seat.stub; door = seat.door; log = seat.log; taken = seat.taken } in
    let new : SeatView = record { client = seat.client; stub = c.take_turn.new.stub; door = c.take_turn.new.door; log = c.take_turn.new.log; taken = seat.taken + 1 } in
    let is : IsSeatOf scene old = subst (IsSeatOf scene) (sym c.seat.view_is) c.requires.seat in
    let took = c.in_ok-take_turn.ensures in
    let readers = c.args.readers.now.items in
    let later = c.take_turn.new.readers.items in
    subst (λ (seat : SeatView). HasTurnedSeat scene readers later seat new) c.seat.view_is (seat_turned scene readers later old new is refl refl took.place took.linked took.own took.turned)
