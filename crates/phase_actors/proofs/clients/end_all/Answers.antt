use Rattle.std.proofs.Common.{List, [], ◌∷◌, ◌++◌, length, sym, ◌∙◌, subst}
use Rattle.std.specs.List.{AllZip}
use Rattle.std.proofs.lemmas.List.{map-id}
use Rattle.std.proofs.lemmas.List.Elements.{All-get_or}
use Rattle.std.proofs.lemmas.Iterator.Adapters.{YieldsList-from_vec}
use Rattle.std.proofs.lemmas.Iterator.Consumers.{YieldsList-turn, YieldsList-end}
use Rattle.dc_host.proofs.Rows.{zip_more}
use Rattle.phase_actors.specs.declared.clients.Player.{Player}
use Rattle.phase_actors.specs.Clients.{SeatView}
use Rattle.phase_actors.specs.Actors.{IsSeatOf, HasEnded}
use Rattle.phase_actors.proofs.Reading.{read_same, read_then, readers_stay}
use Rattle.phase_actors.proofs.Seating.{ended_behind, all_more}
use Rattle.phase_actors.proofs.clients.end_all.Goals as goal

pub end_one-requires-clause-seat : goal.end_one-requires-clause-seat
end_one-requires-clause-seat g c κs within =
    let seats = c.args.seats.items in
    let given = c.into_iter-seat-iterator.ensures.into_iter_gives in
    let turn = YieldsList-turn (YieldsList-from_vec {s = c.into_iter-seat-iterator.result} seats given.0 (let len = given.1 in let ok = c.args.seats.ok in cc)) c.seats.yielded c.seats.seat-iterator c.seats.yielded_by c.next.result c.next.new.self c.in-Some.seat c.in-Some.is c.next.ensures.steps in
    subst (IsSeatOf c.args.scene) (sym turn.1) (All-get_or (IsSeatOf c.args.scene) seats (length c.seats.yielded) c.in-Some.seat turn.0 c.requires.seats)

pub seats-init : goal.seats-init
seats-init g c =
    let readers = c.args.readers.now.items in
    record { read = read_same readers; ended = subst (λ (players : List Player). AllZip (HasEnded c.args.scene readers readers) [] players) (sym c.in_ok-players.ensures.items) tt }

pub end_one-requires-clause-readers : goal.end_one-requires-clause-readers
end_one-requires-clause-readers g c κs within = readers_stay c.args.scene.taps.now c.args.readers.now.items c.seats.readers.items c.seats.invariant.read c.requires.readers

pub seats-preserved : goal.seats-preserved
seats-preserved g c =
    let scene = c.args.scene in
    let first = c.args.readers.now.items in
    let mid = c.seats.readers.items in
    let last = c.end_one.new.readers.items in
    let seats = c.args.seats.items in
    let given = c.into_iter-seat-iterator.ensures.into_iter_gives in
    let turn = YieldsList-turn (YieldsList-from_vec {s = c.into_iter-seat-iterator.result} seats given.0 (let len = given.1 in let ok = c.args.seats.ok in cc)) c.seats.yielded c.seats.seat-iterator c.seats.yielded_by c.next.result c.next.new.self c.in-Some.seat c.in-Some.is c.next.ensures.steps in
    let is : IsSeatOf scene c.in-Some.seat = subst (IsSeatOf scene) (sym turn.1) (All-get_or (IsSeatOf scene) seats (length c.seats.yielded) c.in-Some.seat turn.0 c.requires.seats) in
    let before = all_more scene first mid last c.in_ok-end_one.ensures.read c.seats.yielded c.seats.players.items c.seats.invariant.ended in
    let one = ended_behind scene first mid last c.seats.invariant.read c.in-Some.seat c.in_ok-end_one.field-0 is c.in_ok-end_one.ensures.ended in
    record {
      read = read_then first mid last c.seats.invariant.read c.in_ok-end_one.ensures.read;
      ended = subst (λ (later : List Player). AllZip (HasEnded scene first last) (c.seats.yielded ++ c.in-Some.seat ∷ []) later) (sym c.in_ok-push.ensures.items) (zip_more (HasEnded scene first last) c.seats.yielded c.seats.players.items c.in-Some.seat c.in_ok-end_one.field-0 before one);
    }

pub returns-clause-ended : goal.returns-clause-ended
returns-clause-ended g c =
    let seats = c.args.seats.items in
    let given = c.into_iter-seat-iterator.ensures.into_iter_gives in
    let all = YieldsList-end (YieldsList-from_vec {s = c.into_iter-seat-iterator.result} seats given.0 (let len = given.1 in let ok = c.args.seats.ok in cc)) c.seats.yielded c.seats.seat-iterator c.seats.yielded_by c.next.result c.next.new.self c.in-None.is c.next.ensures.steps in
    subst (λ (seats : List SeatView). AllZip (HasEnded c.args.scene c.args.readers.now.items c.seats.readers.items) seats c.seats.players.items) (sym (map-id c.seats.yielded) ∙ all.0) c.seats.invariant.ended
