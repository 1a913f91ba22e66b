use Rattle.std.proofs.Common.{◌≡◌, ◌<◌, List, Some, length, refl, sym, subst, arith}
use Rattle.std.specs.Prelude.{slice_get}
use Rattle.std.proofs.lemmas.List.Elements.{All-get_or}
use Rattle.std.proofs.lemmas.Option.{slice_get_read, slice_get_within}
use Rattle.phase_actors.specs.Clients.{SeatView}
use Rattle.phase_actors.specs.Actors.{IsSeatOf, IsLeftAt}
use Rattle.phase_actors.proofs.Reading.{read_same}
use Rattle.phase_actors.proofs.Seating.{seat_left, seats_stay, seats_at}
use Rattle.phase_actors.proofs.clients.turn_at.Goals as goal

pub index_mut-requires : goal.index_mut-requires
index_mut-requires g c =
    let seats = c.args.seats.now.items in
    let left : IsLeftAt c.args.scene seats c.args.place = subst (λ (seats : List SeatView). IsLeftAt c.args.scene seats c.args.place) c.as_slice.ensures.value (c.is_left.ensures c.if-is_left.true) in
    let inside : c.args.place < length seats = slice_get_within seats c.args.place left.seat left.there in
    omega (arith, inside, c.args.seats.now.ok.0)

pub turn_one-requires-clause-seat : goal.turn_one-requires-clause-seat
turn_one-requires-clause-seat g c κs within =
    let seats = c.args.seats.now.items in
    let left : IsLeftAt c.args.scene seats c.args.place = subst (λ (seats : List SeatView). IsLeftAt c.args.scene seats c.args.place) c.as_slice.ensures.value (c.is_left.ensures c.if-is_left.true) in
    let inside : c.args.place < length seats = slice_get_within seats c.args.place left.seat left.there in
    subst (IsSeatOf c.args.scene) (sym c.index_mut.ensures.value) (All-get_or (IsSeatOf c.args.scene) seats c.args.place c.index_mut.result.now inside c.requires.seats)

pub turn_one-requires-clause-left : goal.turn_one-requires-clause-left
turn_one-requires-clause-left g c κs within =
    let seats = c.args.seats.now.items in
    let seat = c.index_mut.result.now in
    let left : IsLeftAt c.args.scene seats c.args.place = subst (λ (seats : List SeatView). IsLeftAt c.args.scene seats c.args.place) c.as_slice.ensures.value (c.is_left.ensures c.if-is_left.true) in
    let inside : c.args.place < length seats = slice_get_within seats c.args.place left.seat left.there in
    seat_left c.args.scene seats c.args.place seat left (slice_get_read seats (length seats) c.args.place seat refl inside c.index_mut.ensures.value)

pub returns-in_ok-turn_one-clause-gone : goal.returns-in_ok-turn_one-clause-gone
returns-in_ok-turn_one-clause-gone g c =
    let seats = c.args.seats.now.items in
    let seat = c.index_mut.result.now in
    let left : IsLeftAt c.args.scene seats c.args.place = subst (λ (seats : List SeatView). IsLeftAt c.args.scene seats c.args.place) c.as_slice.ensures.value (c.is_left.ensures c.if-is_left.true) in
    let inside : c.args.place < length seats = slice_get_within seats c.args.place left.seat left.there in
    let there : slice_get seats c.args.place ≡ Some seat = slice_get_read seats (length seats) c.args.place seat refl inside c.index_mut.ensures.value in
    seats_at c.args.scene c.args.readers.now.items c.turn_one.new.readers.items c.in_ok-turn_one.ensures.read seats c.args.place seat c.turn_one.new.seat c.requires.seats there c.in_ok-turn_one.ensures.turned.went

pub returns-else-is_left-clause-read : goal.returns-else-is_left-clause-read
returns-else-is_left-clause-read g c = read_same c.args.readers.now.items

pub returns-else-is_left-clause-gone : goal.returns-else-is_left-clause-gone
returns-else-is_left-clause-gone g c = seats_stay c.args.scene c.args.readers.now.items c.args.readers.now.items (read_same c.args.readers.now.items) c.args.seats.now.items c.requires.seats
