use Rattle.std.proofs.Common.{rules}
use Rattle.std.specs.Prelude.{All}
use Rattle.phase_actors.specs.Taps.{AreReaders}
use Rattle.phase_actors.specs.Actors.{IsSeatOf}
use Rattle.phase_actors.proofs.Reading.{read_same, read_then, readers_stay}
use Rattle.phase_actors.proofs.Seating.{seats_stay, seats_then, gone_seats}
use Rattle.phase_actors.proofs.clients.turn_all.Goals as goal

pub places-init : goal.places-init
places-init g c =
    let readers = c.args.readers.now.items in
    record { read = read_same readers; gone = seats_stay c.args.scene readers readers (read_same readers) c.args.seats.now.items c.requires.seats }

pub turn_at-requires-clause-readers : goal.turn_at-requires-clause-readers
turn_at-requires-clause-readers g c =
    let are : AreReaders c.args.scene.taps.now c.places.readers.items = readers_stay c.args.scene.taps.now c.args.readers.now.items c.places.readers.items c.places.invariant.read c.requires.readers in
    search rules

pub turn_at-requires-clause-seats : goal.turn_at-requires-clause-seats
turn_at-requires-clause-seats g c =
    let all : All (IsSeatOf c.args.scene) c.places.seats.items = gone_seats c.args.scene c.args.readers.now.items c.places.readers.items c.args.seats.now.items c.places.seats.items c.places.invariant.gone in
    search rules

pub places-preserved : goal.places-preserved
places-preserved g c =
    let first = c.args.readers.now.items in
    let mid = c.places.readers.items in
    let last = c.turn_at.new.readers.items in
    record {
      read = read_then first mid last c.places.invariant.read c.in_ok-turn_at.ensures.read;
      gone = seats_then c.args.scene first mid last c.args.seats.now.items c.places.seats.items c.turn_at.new.seats.items c.places.invariant.gone c.in_ok-turn_at.ensures.gone;
    }
