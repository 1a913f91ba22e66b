use Rattle.std.proofs.Common.{rules, List, map, subst}
use Rattle.std.specs.Prelude.{All}
use Rattle.std.specs.List.{AllZip}
use Rattle.phase_actors.specs.Clients.{SeatView, seat_of}
use Rattle.phase_actors.specs.Taps.{AreReaders}
use Rattle.phase_actors.specs.Actors.{IsSeatOf, HasSeatGone}
use Rattle.phase_actors.proofs.Reading.{read_then, readers_stay}
use Rattle.phase_actors.proofs.Seating.{gone_seats, all_ended}
use Rattle.phase_actors.proofs.clients.play_clients.Goals as goal

pub end_all-requires-clause-readers : goal.end_all-requires-clause-readers
end_all-requires-clause-readers g c =
    let are : AreReaders c.args.scene.taps.now c.take_turns.new.readers.items = readers_stay c.args.scene.taps.now c.args.block.readers.items c.take_turns.new.readers.items c.in_ok-take_turns.ensures.read c.requires.block.readers in
    search rules

pub end_all-requires-clause-seats : goal.end_all-requires-clause-seats
end_all-requires-clause-seats g c =
    let all : All (IsSeatOf c.args.scene) c.take_turns.new.seats.items = gone_seats c.args.scene c.args.block.readers.items c.take_turns.new.readers.items c.in_ok-seats.seats.items c.take_turns.new.seats.items c.in_ok-take_turns.ensures.gone in
    search rules

pub returns : goal.returns
returns g c =
    let scene = c.args.scene in
    let players = c.args.block.players.items in
    let readers = c.args.block.readers.items in
    let mid = c.take_turns.new.readers.items in
    let last = c.end_all.new.readers.items in
    let later = c.take_turns.new.seats.items in
    let are : All (IsSeatOf scene) (map seat_of players) = subst (λ (seats : List SeatView). All (IsSeatOf scene) seats) c.in_ok-seats.ensures.seats c.in_ok-seats.ensures.are in
    let went : AllZip (HasSeatGone scene readers mid) (map seat_of players) later = subst (λ (seats : List SeatView). AllZip (HasSeatGone scene readers mid) seats later) c.in_ok-seats.ensures.seats c.in_ok-take_turns.ensures.gone in
    record {
      players = all_ended scene readers mid last players c.in_ok-players.players.items later c.requires.scene c.requires.block.readers are went c.in_ok-players.ensures.ended;
      readers = read_then readers mid last c.in_ok-take_turns.ensures.read c.in_ok-players.ensures.read;
    }
