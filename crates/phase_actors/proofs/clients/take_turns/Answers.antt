use Rattle.std.proofs.Common.{rules}
use Rattle.std.specs.Prelude.{All}
use Rattle.phase_actors.specs.Taps.{AreReaders}
use Rattle.phase_actors.specs.Actors.{IsSeatOf}
use Rattle.phase_actors.proofs.Reading.{read_same, read_then, readers_stay}
use Rattle.phase_actors.proofs.Seating.{seats_stay, seats_then, gone_seats}
use Rattle.phase_actors.proofs.clients.take_turns.Goals as goal

pub turns-init : goal.turns-init
turns-init g c =
    let readers = c.args.readers.now.items in
    record { read = read_same readers; gone = seats_stay c.args.scene readers readers (read_same readers) c.args.seats.now.items c.requires.seats }

pub turn_all-requires-clause-readers : goal.turn_all-requires-clause-readers
turn_all-requires-clause-readers g c =
    let are : AreReaders c.args.scene.taps.now c.turns.readers.items = readers_stay c.args.scene.taps.now c.args.readers.now.items c.turns.readers.items c.turns.invariant.read c.requires.readers in
    search rules

pub turn_all-requires-clause-seats : goal.turn_all-requires-clause-seats
turn_all-requires-clause-seats g c =
    let all : All (IsSeatOf c.args.scene) c.turns.seats.items = gone_seats c.args.scene c.args.readers.now.items c.turns.readers.items c.args.seats.now.items c.turns.seats.items c.turns.invariant.gone in
    search rules

pub turns-preserved : goal.turns-preserved
turns-preserved g c =
    let first = c.args.readers.now.items in
    let mid = c.turns.readers.items in
    let last = c.turn_all.new.readers.items in
    record {
      read = read_then first mid last c.turns.invariant.read c.in_ok-turn_all.ensures.read;
      gone = seats_then c.args.scene first mid last c.args.seats.now.items c.turns.seats.items c.turn_all.new.seats.items c.turns.invariant.gone c.in_ok-turn_all.ensures.gone;
    }
