-- Where each actor stands among the callers of a phase, and what it did there.
use Rattle.std.proofs.Common.{◌≡◌, ℕ, zero, suc, ◌+◌, ◌-◌, ◌*◌, ◌≤◌, List, [], ◌∷◌, ◌++◌, map, length, Some, refl, sym, ap, ◌∙◌, subst, append_assoc, arith}
use Rattle.std.specs.Prelude.{slice_get, flat_map}
use Rattle.std.specs.List.{AllZip}
use Rattle.std.specs.Global.{Vec}
use Rattle.std.proofs.lemmas.List.{map-append, length-map}
use Rattle.std.proofs.lemmas.Option.{none-some, same_Some}
use Rattle.list_core.proofs.Gets.{get_in_front}
use Rattle.dc_talk.specs.declared.sent.Sent.{Sent}
use Rattle.dc_talk.specs.declared.log.Note.{Note}
use Rattle.dc_talk.specs.Logs.{entries_made}
use Rattle.dc_talk.specs.Acting.{Acting}
use Rattle.dc_talk.proofs.Doors.{made_then}
use Rattle.mail_link.specs.Ends.{GiverView}
use Rattle.script_core.specs.declared.rounds.Role.{Role}
use Rattle.script_core.specs.declared.rounds.Role.TheVariants.{Sender, Receiver, Reporter, Pruner}
use Rattle.script_core.specs.Rounds.{worker_of}
use Rattle.run_sections.specs.Orders.{deeds_of}
use Rattle.read_tap.specs.Shows.{ShowsView, FeederView}
use Rattle.phase_actors.specs.declared.callers.Caller.{Caller}
use Rattle.phase_actors.specs.declared.receivers.ReceiverEnd.{ReceiverEnd}
use Rattle.phase_play.specs.declared.crews.Crew.{Crew}
use Rattle.phase_actors.specs.declared.clients.Player.{Player}
use Rattle.phase_actors.specs.declared.scene.Scene.{Scene}
use Rattle.phase_actors.specs.Playing.{Acted, seen_by, IsSameCaller}
use Rattle.phase_actors.specs.Actors.{HasSent, HasReceived, HasClosed, HasOperated, HasReported, HasPruned}
use Rattle.phase_play.specs.Casts.{HasCrewPlayed, HasTakenStepsBy}
use Rattle.thread_run.specs.Casts.{crew_callers, callers_among, HasCrewClosed}
use Rattle.thread_run.proofs.Zips.{zip_append, zip_map, zip_flat, zip_then, get_image, get_behind}

-- ---- where an actor stands

-- the caller stands for the actor of a number, counted from 1
abbrev pub Stands : List Caller → ℕ → Caller → Type 0
Stands callers a caller = slice_get callers (a - 1) ≡ Some caller

-- the worker of a role
abbrev pub caller_as : Role → Crew → Caller
caller_as Sender crew = crew.sender.caller
caller_as Receiver crew = crew.receiver.caller
caller_as Reporter crew = crew.reporter
caller_as Pruner crew = crew.pruner

-- the workers of a centre stand behind those of the centres before it
crew_at : (crews : List Crew) (q r p : ℕ) (crew : Crew) (caller : Caller) → p ≡ 4 * q + r → slice_get crews q ≡ Some crew → slice_get (crew_callers crew) r ≡ Some caller → slice_get (flat_map crew_callers crews) p ≡ Some caller
crew_at [] q r p crew caller is there own = absurd (none-some crew there)
crew_at (first ∷ crews) zero r p crew caller is there own =
    let same : r ≡ p = omega (arith, is) in
    subst (λ k. slice_get (flat_map crew_callers (first ∷ crews)) k ≡ Some caller) same
    (get_in_front (crew_callers first) (flat_map crew_callers crews) r caller (subst (λ c. slice_get (crew_callers c) r ≡ Some caller) (sym (same_Some first crew there)) own))
crew_at (first ∷ crews) (suc q) r p crew caller is there own =
    get_behind (crew_callers first) (flat_map crew_callers crews) 4 (4 * q + r) p refl (omega (arith, is))
    ∙ crew_at crews q r (4 * q + r) crew caller refl there own

module _ (operator : Caller) (players : List Player) (crews : List Crew) where
  -- a client behind the operator
  pub player_stands : (client : ℕ) (player : Player) → 1 ≤ client → slice_get players (client - 1) ≡ Some player → Stands (callers_among operator players crews) (client + 1) player.caller
  player_stands client player low there =
      let place : suc (client - 1) ≡ client + 1 - 1 = omega (arith, low) in
      subst (λ k. slice_get (callers_among operator players crews) k ≡ Some player.caller) place
      (get_in_front (map (λ (p : Player). p.caller) players) (flat_map crew_callers crews) (client - 1) player.caller (get_image (λ (p : Player). p.caller) players (client - 1) player there))

  -- a worker behind the clients
  worker_there : (clients a q r : ℕ) (crew : Crew) (caller : Caller) → length players ≡ clients → a ≡ clients + 1 + 4 * q + (r + 1) → slice_get crews q ≡ Some crew → slice_get (crew_callers crew) r ≡ Some caller → Stands (callers_among operator players crews) a caller
  worker_there clients a q r crew caller count is there own =
      let place : suc (clients + (4 * q + r)) ≡ a - 1 = omega (arith, is) in
      subst (λ k. slice_get (callers_among operator players crews) k ≡ Some caller) place
      (get_behind (map (λ (p : Player). p.caller) players) (flat_map crew_callers crews) clients (4 * q + r) (clients + (4 * q + r)) (length-map players (λ (p : Player). p.caller) ∙ count) refl
      ∙ crew_at crews q r (4 * q + r) crew caller refl there own)

  -- a worker of a role
  pub worker_stands : (clients i : ℕ) (role : Role) (crew : Crew) → length players ≡ clients → slice_get crews (i - 1) ≡ Some crew → Stands (callers_among operator players crews) (worker_of clients i role) (caller_as role crew)
  worker_stands clients i Sender crew count there = worker_there clients (worker_of clients i Sender) (i - 1) 0 crew crew.sender.caller count (omega arith) there refl
  worker_stands clients i Receiver crew count there = worker_there clients (worker_of clients i Receiver) (i - 1) 1 crew crew.receiver.caller count (omega arith) there refl
  worker_stands clients i Reporter crew count there = worker_there clients (worker_of clients i Reporter) (i - 1) 2 crew crew.reporter count (omega arith) there refl
  worker_stands clients i Pruner crew count there = worker_there clients (worker_of clients i Pruner) (i - 1) 3 crew crew.pruner count (omega arith) there refl

-- ---- what it did

-- a caller noted more, and its passes made the entries of that
pub record HasActed (old new : Caller) : Type 0 where
  pub mine : List Note
  pub same : IsSameCaller old new
  pub acted : Acted (seen_by old) (seen_by new) mine

-- what was noted in two goes
pub acted_then : (a b c : Acting) (first later : List Note) → Acted a b first → Acted b c later → Acted a c (first ++ later)
acted_then a b c first later was more = record {
  actor = more.actor ∙ was.actor;
  log = more.log ∙ (ap (λ notes. notes ++ later) was.log ∙ append_assoc a.log.notes first later);
  same = record { actor = more.same.actor ∙ was.same.actor; centres = more.same.centres ∙ was.same.centres; alone = more.same.alone ∙ was.same.alone };
  made = λ i.
      more.made i
      ∙ ((λ j. was.made i j ++ entries_made (was.same.actor j) i (deeds_of later))
      ∙ (append_assoc (a.door.made i) (entries_made a.door.actor i (deeds_of first)) (entries_made a.door.actor i (deeds_of later))
      ∙ ap (λ es. a.door.made i ++ es) (sym (made_then a.door.actor i (deeds_of first) (deeds_of later)) ∙ ap (entries_made a.door.actor i) (sym (map-append (λ (note : Note). note.deed) first later)))));
}

module _ (scene : Scene) (givers : List (List (GiverView Sent))) where
  -- the workers of a centre made their rounds, and then the receiver its closing round
  pub record HasCrewDone (old new : Crew) : Type 0 where
    pub centre : new.centre ≡ old.centre
    pub sender : HasSent scene old.centre old.sender new.sender
    pub mid : ReceiverEnd
    pub receiver : HasReceived scene old.centre old.receiver mid
    pub closed : HasClosed scene old.centre givers mid new.receiver
    pub reporter : HasReported scene old.centre old.reporter new.reporter
    pub pruner : HasPruned scene old.centre old.pruner new.pruner

  -- one after the other
  crew_done : (a b c : Crew) → HasCrewPlayed scene a b → HasCrewClosed scene givers b c → HasCrewDone a c
  crew_done a b c played closed = record {
    centre = closed.centre ∙ played.centre;
    sender = subst (λ end. HasSent scene a.centre a.sender end) (sym closed.sender) played.sender;
    mid = b.receiver;
    receiver = played.receiver;
    closed = subst (λ i. HasClosed scene i givers b.receiver c.receiver) played.centre closed.receiver;
    reporter = subst (λ end. HasReported scene a.centre a.reporter end) (sym closed.reporter) played.reporter;
    pruner = subst (λ end. HasPruned scene a.centre a.pruner end) (sym closed.pruner) played.pruner;
  }

  -- the worker of a role acted
  abbrev pub worker_acted : (role : Role) (old new : Crew) → HasCrewDone old new → HasActed (caller_as role old) (caller_as role new)
  worker_acted Sender old new done = record { mine = done.sender.plays.plays.mine; same = done.sender.same; acted = done.sender.plays.plays.acted }
  worker_acted Receiver old new done = record {
    mine = done.receiver.plays.plays.mine ++ done.closed.closes.mine;
    same = (done.closed.same.0 ∙ done.receiver.same.0, done.closed.same.1 ∙ done.receiver.same.1);
    acted = acted_then (seen_by old.receiver.caller) (seen_by done.mid.caller) (seen_by new.receiver.caller) done.receiver.plays.plays.mine done.closed.closes.mine done.receiver.plays.plays.acted done.closed.closes.acted;
  }
  worker_acted Reporter old new done = record { mine = done.reporter.plays.mine; same = done.reporter.same; acted = done.reporter.plays.acted }
  worker_acted Pruner old new done = record { mine = done.pruner.plays.mine; same = done.pruner.same; acted = done.pruner.plays.acted }

  -- so did all four
  crew_acted : (old new : Crew) → HasCrewDone old new → AllZip HasActed (crew_callers old) (crew_callers new)
  crew_acted old new done = (worker_acted Sender old new done, (worker_acted Receiver old new done, (worker_acted Reporter old new done, (worker_acted Pruner old new done, tt))))

-- a client acted
abbrev pub player_acted : (scene : Scene) (rows : List (Vec ShowsView)) (old new : Player) → HasTakenStepsBy scene rows old new → HasActed old.caller new.caller
player_acted scene rows old new by = record { mine = by.taken.plays.plays.mine; same = by.taken.same; acted = by.taken.plays.plays.acted }

-- the operator acted
abbrev pub operator_acted : (scene : Scene) (old : Caller) (feeders : List FeederView) (new : Caller) (later : List FeederView) → HasOperated scene old feeders new later → HasActed old new
operator_acted scene old feeders new later operated = record { mine = operated.plays.mine; same = operated.same; acted = operated.plays.acted }

-- the workers of all centres acted
pub crews_done : (scene : Scene) (givers : List (List (GiverView Sent))) (before played closed : List Crew) → AllZip (HasCrewPlayed scene) before played → AllZip (HasCrewClosed scene givers) played closed → AllZip (HasCrewDone scene givers) before closed
crews_done scene givers before played closed first later = zip_then (HasCrewPlayed scene) (HasCrewClosed scene givers) (HasCrewDone scene givers) before played closed (crew_done scene givers) first later

-- so did all
pub all_acted : (scene : Scene) (givers : List (List (GiverView Sent))) (feeders later : List FeederView) (rows : List (Vec ShowsView)) (operator : Caller) (players : List Player) (crews : List Crew) (operator' : Caller) (players' : List Player) (crews' : List Crew) → HasOperated scene operator feeders operator' later → AllZip (HasTakenStepsBy scene rows) players players' → AllZip (HasCrewDone scene givers) crews crews' → AllZip HasActed (callers_among operator players crews) (callers_among operator' players' crews')
all_acted scene givers feeders later rows operator players crews operator' players' crews' operated taken done = (
  operator_acted scene operator feeders operator' later operated,
  zip_append HasActed (map (λ (p : Player). p.caller) players) (flat_map crew_callers crews) (map (λ (p : Player). p.caller) players') (flat_map crew_callers crews')
      (zip_map (HasTakenStepsBy scene rows) HasActed (λ (p : Player). p.caller) (λ (p : Player). p.caller) players players' (player_acted scene rows) taken)
      (zip_flat (HasCrewDone scene givers) HasActed crew_callers crew_callers crews crews' (crew_acted scene givers) done),
)
