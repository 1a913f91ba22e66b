use Rattle.std.proofs.Common.{[], ◌∷◌, ◌++◌, List, length, sym, ◌∙◌, subst}
use Rattle.std.specs.Prelude.{All}
use Rattle.std.proofs.lemmas.List.{map-append}
use Rattle.std.proofs.lemmas.List.Elements.{All-nil, All-cons, All-append, All-get_or}
use Rattle.std.proofs.lemmas.Iterator.Adapters.{YieldsList-from_vec}
use Rattle.std.proofs.lemmas.Iterator.Consumers.{YieldsList-turn}
use Rattle.phase_actors.specs.Clients.{SeatView, seat_of}
use Rattle.phase_actors.specs.Actors.{IsPlayerOf, IsSeatOf}
use Rattle.phase_actors.proofs.clients.sit_all.Goals as goal

pub sit-requires-clause-player : goal.sit-requires-clause-player
sit-requires-clause-player g c κs within =
    let players = c.args.players.items in
    let given = c.into_iter-player-iterator.ensures.into_iter_gives in
    let turn = YieldsList-turn (YieldsList-from_vec {s = c.into_iter-player-iterator.result} players given.0 (let len = given.1 in let ok = c.args.players.ok in cc)) c.players.yielded c.players.player-iterator c.players.yielded_by c.next.result c.next.new.self c.in-Some.player c.in-Some.is c.next.ensures.steps in
    subst (IsPlayerOf c.args.scene) (sym turn.1) (All-get_or (IsPlayerOf c.args.scene) players (length c.players.yielded) c.in-Some.player turn.0 c.requires.players)

pub players-preserved : goal.players-preserved
players-preserved g c =
    let scene = c.args.scene in
    let was = c.players.invariant in
    let seats = c.players.seats.items in
    let seat = c.sit.result in
    record {
      are = subst (λ (seats : List SeatView). All (IsSeatOf scene) seats) (sym c.in_ok-push.ensures.items) (All-append (IsSeatOf scene) seats (seat ∷ []) was.are (All-cons (IsSeatOf scene) seat [] c.sit.ensures.is (All-nil (IsSeatOf scene))));
      seats_are = c.in_ok-push.ensures.items ∙ ((λ i. was.seats_are i ++ c.sit.ensures.seat i ∷ []) ∙ sym (map-append seat_of c.players.yielded (c.in-Some.player ∷ [])));
    }
