-- A client's seat, before and behind a turn.
use Rattle.std.proofs.Common.{◌≡◌, ◌≤◌, ◌<◌, ℕ, zero, suc, ◌+◌, ◌-◌, ◌^◌, List, [], ◌∷◌, length, map, refl, sym, ap, ◌∙◌, subst, arith, Option, Some}
use Rattle.std.specs.Prelude.{All, slice_get, slice_set, fold, max}
use Rattle.std.specs.List.{AllZip, range_with_len}
use Rattle.std.proofs.lemmas.List.{length-map}
use Rattle.std.proofs.lemmas.Option.{none-some, same_Some}
use Rattle.std.proofs.lemmas.List.Elements.{All-nil, All-cons, All-head, All-tail}
use Rattle.dc_host.specs.HostDoors.{CentrePass, bare, shown_over, place_over, new_door}
use Rattle.dc_host.specs.declared.host_door.HostPlace.{HostPlace}
use Rattle.client_stub.specs.Playing.{IsLinkBehind}
use Rattle.script_core.specs.declared.steps.ClientStep.{ClientStep}
use Rattle.script_core.specs.declared.script.Script.{Script}
use Rattle.script_core.specs.declared.steps.Section.{Section}
use Rattle.script_core.specs.Steps.{IsCount}
use Rattle.run_book.specs.Moves.{client_steps, operator_steps, most_steps}
use Rattle.run_table.specs.declared.dealing.Dealt.{Dealt}
use Rattle.run_table.specs.Dealing.{IsDealtPhase, line_of}
use Rattle.phase_actors.specs.declared.scene.Scene.{Scene}
use Rattle.run_table.proofs.Lines.{most_few}
use Rattle.read_tap.specs.Shows.{ShowsView}
use Rattle.phase_actors.specs.Scenes.{IsScene}
use Rattle.phase_actors.specs.Taps.{AreReaders, HaveRead}
use Rattle.phase_actors.proofs.Among.{zip_then}
use Rattle.phase_actors.specs.Clients.{ClientAt, SeatView, seated, seat_of, HasTurned}
use Rattle.phase_actors.specs.declared.clients.Player.{Player}
use Rattle.phase_actors.specs.Actors.{IsSeatOf, IsLeftAt, HasSeatGone, HasTurnedSeat, HasEnded, HasTakenSteps}
use Rattle.phase_actors.proofs.Turns.{turn_more, turn_none, turns_all}

-- the step that was dealt to a client is its step in the section
pub step_dealt : (script : Script) (section : Section) (dealt : Dealt) (client place : ℕ) (step : Option ClientStep) → IsDealtPhase script section dealt → IsCount script.clients client → step ≡ slice_get (line_of dealt client) place → slice_get (client_steps client section) place ≡ step
step_dealt script section dealt client place step phase count is = sym (is ∙ ap (λ line. slice_get line place) (phase.steps_are.each client count.0 count.1))

-- as many passes where they are the same
pub passes_long : (old new : List CentrePass) → map bare new ≡ map bare old → length new ≡ length old
passes_long old new same = sym (length-map new bare) ∙ (ap length same ∙ length-map old bare)

-- a number is no more than the greatest of it and others
grown : (most : ℕ) (xs : List ℕ) → most ≤ fold max most xs
grown most [] = omega arith
grown most (x ∷ xs) = omega (arith, grown (max most x) xs)

-- each client's steps are at most the most steps of an actor
pub steps_few : (clients client : ℕ) (section : Section) → IsCount clients client → length (client_steps client section) ≤ most_steps clients section
steps_few clients client section count =
    let same : 1 + (client - 1) ≡ client = omega (arith, count.0) in
    subst (λ k. steps k ≤ most_steps clients section) same (go clients 1 (client - 1) (length (operator_steps section)) (omega (arith, count.0, count.1)))
  where
    steps : ℕ → ℕ
    steps client = length (client_steps client section)

    go : (many first place most : ℕ) → place < many → steps (first + place) ≤ fold max most (map steps (range_with_len first many))
    go zero first place most within = absurd (omega (arith, within))
    go (suc many) first zero most within =
        let same : first ≡ first + 0 = omega arith in
        let here : steps first ≤ fold max (max most (steps first)) (map steps (range_with_len (first + 1) many)) = omega (arith, grown (max most (steps first)) (map steps (range_with_len (first + 1) many))) in
        subst (λ k. steps k ≤ fold max (max most (steps first)) (map steps (range_with_len (first + 1) many))) same here
    go (suc many) first (suc place) most within =
        let same : first + 1 + place ≡ first + suc place = omega arith in
        subst (λ k. steps k ≤ fold max (max most (steps first)) (map steps (range_with_len (first + 1) many))) same (go many (first + 1) place (max most (steps first)) (omega (arith, within)))

-- so are those that were dealt to it
pub dealt_few : (script : Script) (section : Section) (dealt : Dealt) (client : ℕ) → IsDealtPhase script section dealt → IsCount script.clients client → length (line_of dealt client) < 2 ^ 32
dealt_few script section dealt client phase count =
    let long : length (line_of dealt client) ≡ length (client_steps client section) = ap (λ (line : List ClientStep). length line) (phase.steps_are.each client count.0 count.1) in
    omega (arith, long, steps_few script.clients client section count, most_few script.clients section, phase.phase.few)

module _ (scene : Scene) where
  -- a client that takes no step, while its readers come to see more
  pub seat_stays : (readers later : List ShowsView) → HaveRead readers later → (seat : SeatView) → IsSeatOf scene seat → HasSeatGone scene readers later seat seat
  seat_stays readers later read seat is = record {
    is = is;
    gone = record {
      same = record { client = refl; actor = refl; passes = refl };
      turned = λ first was. turn_more scene.taps.now readers later scene.section.now scene.number seat.taken first (seated seat) read was;
    };
  }

  -- one that takes some steps, and then more
  pub seat_then : (first readers later : List ShowsView) (a b c : SeatView) → HasSeatGone scene first readers a b → HasSeatGone scene readers later b c → HasSeatGone scene first later a c
  seat_then first readers later a b c one two = record {
    is = two.is;
    gone = record {
      same = record {
        client = two.gone.same.client ∙ one.gone.same.client;
        actor = two.gone.same.actor ∙ one.gone.same.actor;
        passes = two.gone.same.passes ∙ one.gone.same.passes;
      };
      turned = λ at was. two.gone.turned at (one.gone.turned at was);
    };
  }

  -- the same of all of them
  pub seats_stay : (readers later : List ShowsView) → HaveRead readers later → (seats : List SeatView) → All (IsSeatOf scene) seats → AllZip (HasSeatGone scene readers later) seats seats
  seats_stay readers later read [] all = tt
  seats_stay readers later read (seat ∷ seats) all = (
    seat_stays readers later read seat (All-head (IsSeatOf scene) seat seats all),
    seats_stay readers later read seats (All-tail (IsSeatOf scene) seat seats all),
  )

  pub seats_then : (before readers later : List ShowsView) (first seats last : List SeatView) → AllZip (HasSeatGone scene before readers) first seats → AllZip (HasSeatGone scene readers later) seats last → AllZip (HasSeatGone scene before later) first last
  seats_then before readers later first seats last one two = zip_then (HasSeatGone scene before readers) (HasSeatGone scene readers later) (HasSeatGone scene before later) (seat_then before readers later) first seats last one two

  -- they are seats still
  pub gone_seats : (readers later : List ShowsView) (first seats : List SeatView) → AllZip (HasSeatGone scene readers later) first seats → All (IsSeatOf scene) seats
  gone_seats readers later [] [] gone = All-nil (IsSeatOf scene)
  gone_seats readers later [] (seat ∷ seats) gone = absurd gone
  gone_seats readers later (a ∷ first) [] gone = absurd gone
  gone_seats readers later (a ∷ first) (seat ∷ seats) gone = All-cons (IsSeatOf scene) seat seats gone.0.is (gone_seats readers later first seats gone.1)

  -- one of them takes steps, and the others stay
  pub seats_at : (readers later : List ShowsView) → HaveRead readers later → (seats : List SeatView) (place : ℕ) (seat new : SeatView) → All (IsSeatOf scene) seats → slice_get seats place ≡ Some seat → HasSeatGone scene readers later seat new → AllZip (HasSeatGone scene readers later) seats (slice_set seats place new)
  seats_at readers later read [] place seat new all there gone = absurd (none-some seat there)
  seats_at readers later read (s ∷ seats) zero seat new all there gone = (
    subst (λ (s : SeatView). HasSeatGone scene readers later s new) (sym (same_Some s seat there)) gone,
    seats_stay readers later read seats (All-tail (IsSeatOf scene) s seats all),
  )
  seats_at readers later read (s ∷ seats) (suc place) seat new all there gone = (
    seat_stays readers later read s (All-head (IsSeatOf scene) s seats all),
    seats_at readers later read seats place seat new (All-tail (IsSeatOf scene) s seats all) there gone,
  )

  -- a step is left to the client at a place, where one is left there
  pub seat_left : (seats : List SeatView) (place : ℕ) (seat : SeatView) → IsLeftAt scene seats place → slice_get seats place ≡ Some seat → seat.taken < length (line_of scene.dealt.now seat.client)
  seat_left seats place seat left there = subst (λ (seat : SeatView). seat.taken < length (line_of scene.dealt.now seat.client)) (same_Some left.seat seat (sym left.there ∙ there)) left.left

  -- a client took its next step at its seat
  pub seat_turned : (readers later : List ShowsView) (old new : SeatView) → IsSeatOf scene old → new.client ≡ old.client → new.taken ≡ old.taken + 1 → place_over new.door ≡ place_over old.door → IsLinkBehind (shown_over new.door) new.stub.client → new.stub.client.client ≡ old.client → ((first : ClientAt) → HasTurned scene.taps.now readers scene.section.now scene.number (old.taken + 1 - 1) first (seated old) → HasTurned scene.taps.now later scene.section.now scene.number (old.taken + 1) first (seated new)) → HasTurnedSeat scene readers later old new
  seat_turned readers later old new is same more place linked own turned =
      let passes : map bare new.door.passes ≡ map bare old.door.passes = ap (λ (place : HostPlace). place.passes) place in
      let before : old.taken ≡ old.taken + 1 - 1 = omega arith in
      record {
        went = record {
          is = record {
            client = subst (IsCount scene.script.now.clients) (sym same) is.client;
            own = own ∙ sym same;
            centres = passes_long old.door.passes new.door.passes passes ∙ is.centres;
            linked = linked;
          };
          gone = record {
            same = record { client = same; actor = ap (λ (place : HostPlace). place.actor) place; passes = passes };
            turned = λ first was. subst (λ k. HasTurned scene.taps.now later scene.section.now scene.number k first (seated new)) (sym more) (turned first (subst (λ k. HasTurned scene.taps.now readers scene.section.now scene.number k first (seated old)) before was));
          };
        };
        taken = more;
      }

  -- the steps that were dealt to a client at its seat are its steps
  seat_line : (seat : SeatView) → IsScene scene → IsSeatOf scene seat → line_of scene.dealt.now seat.client ≡ client_steps seat.client scene.section.now
  seat_line seat there is = there.phase.steps_are.each seat.client is.client.0 is.client.1

  -- a client that took all its steps, of which the first ones while its readers came to see less
  pub ended_behind : (first readers later : List ShowsView) → HaveRead first readers → (seat : SeatView) (player : Player) → IsSeatOf scene seat → HasEnded scene readers later seat player → HasEnded scene first later seat player
  ended_behind first readers later read seat player is ended = record {
    seat = ended.seat;
    went = seat_then first readers later seat seat ended.seat (seat_stays first readers read seat is) ended.went;
    all = ended.all;
    stood = ended.stood;
  }

  -- its readers come to see more
  ended_more : (first readers later : List ShowsView) → HaveRead readers later → (seat : SeatView) (player : Player) → HasEnded scene first readers seat player → HasEnded scene first later seat player
  ended_more first readers later read seat player ended = record {
    seat = ended.seat;
    went = seat_then first readers later seat ended.seat ended.seat ended.went (seat_stays readers later read ended.seat ended.went.is);
    all = ended.all;
    stood = ended.stood;
  }

  -- so of all of them
  pub all_more : (first readers later : List ShowsView) → HaveRead readers later → (seats : List SeatView) (players : List Player) → AllZip (HasEnded scene first readers) seats players → AllZip (HasEnded scene first later) seats players
  all_more first readers later read [] [] ended = tt
  all_more first readers later read [] (p ∷ players) ended = absurd ended
  all_more first readers later read (seat ∷ seats) [] ended = absurd ended
  all_more first readers later read (seat ∷ seats) (p ∷ players) ended = (ended_more first readers later read seat p ended.0, all_more first readers later read seats players ended.1)

  -- a player that took all its steps
  one_ended : (before readers after : List ShowsView) (player later : Player) (seat : SeatView) → IsScene scene → AreReaders scene.taps.now before → IsSeatOf scene (seat_of player) → HasSeatGone scene before readers (seat_of player) seat → HasEnded scene readers after seat later → HasTakenSteps scene after player later
  one_ended before readers after player later seat there are is went ended =
      let first : ClientAt = seated (seat_of player) in
      let last : SeatView = ended.seat in
      let both : HasSeatGone scene before after (seat_of player) last = seat_then before readers after (seat_of player) seat last went ended.went in
      let turned : HasTurned scene.taps.now after scene.section.now scene.number last.taken first (seated last) = both.gone.turned first (turn_none scene.taps.now before scene.section.now scene.number first are is.linked) in
      let log : last.log.actor ≡ player.caller.log.actor = turned.plays.acted.actor in
      let same : seat_of later ≡ record last { door = new_door last.door.actor last.door.passes; taken = 0 } = ended.stood (both.gone.same.actor ∙ sym log) in
      let own : length (client_steps last.client scene.section.now) ≤ last.taken = subst (λ (line : List ClientStep). length line ≤ last.taken) (seat_line last there both.is) ended.all in
      let few : length (client_steps player.client scene.section.now) ≤ last.taken = subst (λ client. length (client_steps client scene.section.now) ≤ last.taken) both.gone.same.client own in
      record {
        same = (ap (λ (seat : SeatView). seat.log.actor) same ∙ log, ap (λ (seat : SeatView). map bare seat.door.passes) same ∙ both.gone.same.passes);
        plays = turns_all scene.taps.now after scene.section.now scene.number last.taken first (seated (seat_of later)) few (subst (λ (seat : SeatView). HasTurned scene.taps.now after scene.section.now scene.number last.taken first (seated seat)) (sym same) turned);
      }

  -- all of them
  pub all_ended : (before readers after : List ShowsView) (players later : List Player) (seats : List SeatView) → IsScene scene → AreReaders scene.taps.now before → All (IsSeatOf scene) (map seat_of players) → AllZip (HasSeatGone scene before readers) (map seat_of players) seats → AllZip (HasEnded scene readers after) seats later → AllZip (HasTakenSteps scene after) players later
  all_ended before readers after [] [] [] there are all went ended = tt
  all_ended before readers after [] (p ∷ later) [] there are all went ended = absurd ended
  all_ended before readers after [] later (seat ∷ seats) there are all went ended = absurd went
  all_ended before readers after (p ∷ players) later [] there are all went ended = absurd went
  all_ended before readers after (p ∷ players) [] (seat ∷ seats) there are all went ended = absurd ended
  all_ended before readers after (p ∷ players) (q ∷ later) (seat ∷ seats) there are all went ended = (
    one_ended before readers after p q seat there are (All-head (IsSeatOf scene) (seat_of p) (map seat_of players) all) went.0 ended.0,
    all_ended before readers after players later seats there are (All-tail (IsSeatOf scene) (seat_of p) (map seat_of players) all) went.1 ended.1,
  )
