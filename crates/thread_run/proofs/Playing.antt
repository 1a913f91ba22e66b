-- A phase that was played with threads, as a section.
use Rattle.std.proofs.Common.{◌≡◌, ℕ, suc, ◌+◌, ◌-◌, ◌≤◌, ◌<◌, List, [], ◌++◌, map, length, drop, Some, refl, sym, ap, ◌∙◌, subst, arith}
use Rattle.std.specs.Prelude.{slice_get, min}
use Rattle.std.specs.List.{AllZip, range_with_len}
use Rattle.std.specs.Global.{Vec}
use Rattle.std.proofs.lemmas.List.{length-map}
use Rattle.std.proofs.lemmas.List.FromFn.{length-range_with_len, length-map-range_with_len, get_or-range_with_len}
use Rattle.std.proofs.lemmas.Option.{same_Some, slice_get-get_or, get_or_from_slice_get}
use Rattle.list_core.proofs.Gets.{get_within}
use Rattle.dc_talk.specs.declared.sent.Sent.{Sent}
use Rattle.dc_talk.specs.Logs.{Logged}
use Rattle.dc_door.specs.Centres.{CentreTrail, KeptCentre, all_seen}
use Rattle.dc_host.specs.Hosts.{AreFor, rows_of, new_rows, IsHostOf, AreClosed}
use Rattle.dc_door.specs.KeptDoors.{trail_at}
use Rattle.mail_link.specs.Ends.{GiverView}
use Rattle.script_core.specs.declared.rounds.Role.{Role}
use Rattle.script_core.specs.Steps.{IsCount}
use Rattle.script_core.specs.Rows.{IsPhase}
use Rattle.script_core.specs.Rounds.{worker_of}
use Rattle.script_core.specs.Scripts.{header_of, IsInRange}
use Rattle.dc_links.specs.Links.{IsAmong, rows_of as ends_of, AreGiverRows, AreTakerRows, put_between, taken_between}
use Rattle.run_book.specs.Parts.{idle_log}
use Rattle.run_book.specs.Setups.{setup_of, settings_among}
use Rattle.run_table.specs.Dealing.{IsDealt}
use Rattle.run_table.specs.declared.table.Table.{Table}
use Rattle.run_table.specs.Tables.{log_at}
use Rattle.run_sections.specs.Sections.{Left, actors_of}
use Rattle.phase_actors.specs.declared.callers.Caller.{Caller}
use Rattle.phase_play.specs.declared.crews.Crew.{Crew}
use Rattle.phase_actors.specs.declared.clients.Player.{Player}
use Rattle.phase_actors.specs.declared.scene.Scene.{Scene}
use Rattle.phase_play.specs.declared.threads.Cast.{Cast}
use Rattle.read_tap.specs.Shows.{ShowsView, FeederView}
use Rattle.phase_play.specs.Casts.{HasTakenStepsBy, HaveAllPlayed}
use Rattle.thread_run.specs.declared.parts.Parts.{Parts}
use Rattle.thread_run.specs.Casts.{callers_among, IsCastOf, HaveParted}
use Rattle.thread_run.specs.Lending.{AreInlets, HaveInlets}
use Rattle.thread_run.specs.Tables.{notes_at, IsTableOf, AreLinked, AreNumbered}
use Rattle.thread_run.specs.Taps.{row_lists, AreOpenFor, HaveClosed}
use Rattle.thread_run.proofs.Zips.{zip_get, get_image, drop_front}
use Rattle.thread_run.proofs.Callers.{Stands, caller_as, player_stands, worker_stands, HasActed, HasCrewDone, worker_acted, player_acted, operator_acted, crews_done, all_acted}

-- a phase as its actors begin it: the hosts and the links are new, and the actors have their parts
pub record IsPhaseBegun (scene : Scene) (old : Table) : Type 0 where
  pub range : IsInRange scene.script.now
  pub phase : IsPhase (header_of scene.script.now) scene.section.now
  pub dealt : IsDealt scene.script.now.clients scene.section.now.steps scene.dealt.now
  pub table : IsTableOf scene.script.now old
  pub linked : AreLinked scene.script.now old
  pub numbered : AreNumbered scene.script.now old
  pub opened : AllZip IsHostOf old.door.centres scene.hosts.now.hosts
  pub callers : scene.hosts.now.callers ≡ actors_of scene.script.now
  pub each : AreFor (actors_of scene.script.now) scene.hosts.now.hosts
  pub links : length scene.links.now ≡ scene.script.now.n
  pub parts : Parts
  pub rows_new : rows_of parts.rows.items ≡ new_rows scene.hosts.now.hosts 1 (actors_of scene.script.now)
  pub logs_are : parts.logs.items ≡ old.logs.items
  pub stubs_are : parts.stubs.items ≡ old.stubs.items
  pub givers : AreGiverRows scene.links.now (ends_of parts.givers.items)
  pub takers : AreTakerRows scene.links.now (ends_of parts.takers.items)
  pub none_put : (from to : ℕ) → put_between (ends_of parts.givers.items) from to ≡ []
  pub none_taken : (from to : ℕ) → taken_between (ends_of parts.takers.items) from to ≡ []
  pub lent : AreInlets old.posts scene.script.now.n parts.inlets.items
  pub cast : Cast
  pub cast_is : IsCastOf scene.script.now.n scene.script.now.clients parts cast
  pub taps_are : scene.taps.now ≡ old.taps.items
  pub threads : ℕ
  pub threads_are : threads ≡ min scene.script.now.clients scene.script.now.threads
  pub feeders : List FeederView
  pub rows : List (Vec ShowsView)
  pub taps_open : AreOpenFor scene.script.now.n threads scene.taps.now feeders rows

-- they did their parts, and were taken apart
pub record IsPhaseRun (scene : Scene) (old : Table) : Type 0 where
  pub begun : IsPhaseBegun scene old
  pub acted : Cast
  pub fed : List FeederView
  pub seen : List (Vec ShowsView)
  pub played : HaveAllPlayed scene begun.cast begun.feeders begun.rows acted fed seen
  pub later : Parts
  pub parted : HaveParted scene scene.script.now.n scene.script.now.clients acted later

-- what they leave from the table before it to the one behind it
pub record IsPhasePlayed (scene : Scene) (old new : Table) : Type 0 where
  pub run : IsPhaseRun scene old
  pub drained : (from to : ℕ) → IsAmong (length scene.links.now) from → IsAmong (length scene.links.now) to → length (taken_between (ends_of run.later.takers.items) from to) ≡ length (put_between (ends_of run.later.givers.items) from to) → put_between (ends_of run.later.givers.items) from to ≡ taken_between (ends_of run.later.takers.items) from to
  pub kept : List KeptCentre
  pub closed : AreClosed scene.hosts.now.hosts (rows_of run.later.rows.items) kept
  pub given : HaveInlets scene.script.now.n run.later.inlets.items new.posts
  pub door_is : new.door.centres ≡ all_seen kept
  pub stubs_new : new.stubs.items ≡ run.later.stubs.items
  pub logs_new : new.logs.items ≡ run.later.logs.items
  pub taps_closed : HaveClosed old.taps.items run.fed (row_lists run.seen) new.taps.items

-- what stands in one table behind what stood in the other
unfoldable pub left_between : Table → Table → Left
left_between old new = record {
  notes = λ a. drop (length (notes_at old a)) (notes_at new a);
  entries = λ i. drop (length (trail_at old.door.centres i)) (trail_at new.door.centres i);
}

-- the log at an actor's place is the actor's
log_there : (logs : List Logged) (a : ℕ) (log : Logged) → 1 ≤ a → slice_get logs (a - 1) ≡ Some log → log_at logs a ≡ log
log_there logs a log low there =
    let same : suc (a - 1) ≡ a = omega (arith, low) in
    subst (λ k. log_at logs k ≡ log) same (get_or_from_slice_get logs (a - 1) log (idle_log 0) there)

-- the element of a number among elements that are numbered from 1
pub numbered : {X : Type 0} (f : X → ℕ) (xs : List X) (count i : ℕ) (x : X) → map f xs ≡ range_with_len 1 count → IsCount count i → slice_get xs (i - 1) ≡ Some x → f x ≡ i
numbered f xs count i x are range there =
    let place : 1 + (i - 1) ≡ i = omega (arith, range.0) in
    let within : i - 1 < length (range_with_len 1 count) = omega (arith, range.0, range.1, length-range_with_len 1 count) in
    same_Some (f x) i
    (sym (get_image f xs (i - 1) x there)
    ∙ (ap (λ l. slice_get l (i - 1)) are
    ∙ (slice_get-get_or (range_with_len 1 count) (i - 1) 0 within
    ∙ ap Some (get_or-range_with_len 1 count (i - 1) 0 (omega (arith, range.0, range.1)) ∙ place))))

-- how many there are
pub count_of : {X : Type 0} (f : X → ℕ) (xs : List X) (count : ℕ) → map f xs ≡ range_with_len 1 count → length xs ≡ count
count_of f xs count are = sym (length-map xs f) ∙ (ap length are ∙ length-range_with_len 1 count)

module _ (scene : Scene) (old : Table) (begun : IsPhaseBegun scene old) where
  -- how many centres there are
  pub centres_count : length old.door.centres ≡ scene.script.now.n
  centres_count = sym (length-map old.door.centres (λ (c : CentreTrail). c.settings)) ∙ (ap length begun.table.settings ∙ length-map-range_with_len (settings_among scene.script.now.n scene.script.now.k (setup_of scene.script.now)) 1 scene.script.now.n)

  -- all actors before the phase, as callers
  abbrev pub before : List Caller
  before = callers_among begun.cast.operator begun.cast.clients.items begun.cast.crews.items

  -- one for each actor
  pub callers_count : length before ≡ actors_of scene.script.now
  callers_count = sym (length-map before (λ (c : Caller). c.log)) ∙ (ap length (begun.cast_is.callers.logs_are ∙ begun.logs_are) ∙ begun.table.logs)

  -- the log of an actor
  pub log_before : (a : ℕ) (c : Caller) → 1 ≤ a → Stands before a c → log_at old.logs.items a ≡ c.log
  log_before a c low there = log_there old.logs.items a c.log low (ap (λ logs. slice_get logs (a - 1)) (sym begun.logs_are ∙ sym begun.cast_is.callers.logs_are) ∙ get_image (λ (c : Caller). c.log) before (a - 1) c there)

module _ (scene : Scene) (old : Table) (run : IsPhaseRun scene old) where
  -- the ends of all senders behind the phase
  abbrev pub put_then : List (List (GiverView Sent))
  put_then = ends_of run.later.givers.items

  -- all actors behind the phase, as callers
  abbrev pub behind : List Caller
  behind = callers_among run.acted.operator run.acted.clients.items run.parted.closed

  -- the workers of each centre made all their rounds
  pub done : AllZip (HasCrewDone scene put_then) run.begun.cast.crews.items run.parted.closed
  done = crews_done scene put_then run.begun.cast.crews.items run.acted.crews.items run.parted.closed run.played.crews run.parted.crews

  -- each actor acted
  pub did : AllZip HasActed (before scene old run.begun) behind
  did = all_acted scene put_then run.begun.feeders run.fed run.seen run.begun.cast.operator run.begun.cast.clients.items run.begun.cast.crews.items run.acted.operator run.acted.clients.items run.parted.closed run.played.operator run.played.clients done

  -- the workers of a centre
  pub record HasCrew (i : ℕ) : Type 0 where
    pub crew : Crew
    pub there : slice_get run.begun.cast.crews.items (i - 1) ≡ Some crew
    pub number : crew.centre ≡ i
    pub later : Crew
    pub is : slice_get run.parted.closed (i - 1) ≡ Some later
    pub done : HasCrewDone scene put_then crew later

  -- each centre has its workers
  pub crew_of : (i : ℕ) → IsCount scene.script.now.n i → HasCrew i
  crew_of i range =
      let count = count_of (λ (c : Crew). c.centre) run.begun.cast.crews.items scene.script.now.n run.begun.cast_is.crews.numbers in
      let crew = get_within run.begun.cast.crews.items (i - 1) (omega (arith, range.0, range.1, count)) in
      let pair = zip_get (HasCrewDone scene put_then) run.begun.cast.crews.items run.parted.closed (i - 1) crew.0 done crew.1 in
      record {
        crew = crew.0;
        there = crew.1;
        number = numbered (λ (c : Crew). c.centre) run.begun.cast.crews.items scene.script.now.n i crew.0 run.begun.cast_is.crews.numbers range crew.1;
        later = pair.partner;
        is = pair.there;
        done = pair.related;
      }

  -- a client
  pub record HasPlayer (client : ℕ) : Type 0 where
    pub player : Player
    pub there : slice_get run.begun.cast.clients.items (client - 1) ≡ Some player
    pub number : player.client ≡ client
    pub later : Player
    pub is : slice_get run.acted.clients.items (client - 1) ≡ Some later
    pub by : HasTakenStepsBy scene run.seen player later

  -- each client plays
  pub player_of : (client : ℕ) → IsCount scene.script.now.clients client → HasPlayer client
  player_of client range =
      let count = count_of (λ (p : Player). p.client) run.begun.cast.clients.items scene.script.now.clients run.begun.cast_is.numbers in
      let player = get_within run.begun.cast.clients.items (client - 1) (omega (arith, range.0, range.1, count)) in
      let pair = zip_get (HasTakenStepsBy scene run.seen) run.begun.cast.clients.items run.acted.clients.items (client - 1) player.0 run.played.clients player.1 in
      record {
        player = player.0;
        there = player.1;
        number = numbered (λ (p : Player). p.client) run.begun.cast.clients.items scene.script.now.clients client player.0 run.begun.cast_is.numbers range player.1;
        later = pair.partner;
        is = pair.there;
        by = pair.related;
      }

module _ (scene : Scene) (old new : Table) (h : IsPhasePlayed scene old new) where
  -- ---- the notes

  -- an actor's log behind the phase
  pub log_behind : (a : ℕ) (c : Caller) → 1 ≤ a → Stands (behind scene old h.run) a c → log_at new.logs.items a ≡ c.log
  log_behind a c low there = log_there new.logs.items a c.log low (ap (λ logs. slice_get logs (a - 1)) (h.logs_new ∙ sym h.run.parted.parted.callers.logs_are) ∙ get_image (λ (c : Caller). c.log) (behind scene old h.run) (a - 1) c there)

  -- what it noted stands behind its notes
  pub notes_grown : (a : ℕ) (c d : Caller) (r : HasActed c d) → 1 ≤ a → Stands (before scene old h.run.begun) a c → Stands (behind scene old h.run) a d → notes_at new a ≡ notes_at old a ++ r.mine
  notes_grown a c d r low was is =
      ap (λ (log : Logged). log.notes) (log_behind a d low is)
      ∙ (r.acted.log ∙ ap (λ (log : Logged). log.notes ++ r.mine) (sym (log_before scene old h.run.begun a c low was)))

  -- and is what is left of it
  pub left_is : (a : ℕ) (c d : Caller) (r : HasActed c d) → 1 ≤ a → Stands (before scene old h.run.begun) a c → Stands (behind scene old h.run) a d → (left_between old new).notes a ≡ r.mine
  unfolding left_between
  left_is a c d r low was is = drop_front (notes_at old a) r.mine (notes_at new a) (notes_grown a c d r low was is)

  -- so it is of the operator, of each client and of each worker
  pub operator_left : (left_between old new).notes 1 ≡ h.run.played.operator.plays.mine
  operator_left = left_is 1 h.run.begun.cast.operator h.run.acted.operator (operator_acted scene h.run.begun.cast.operator h.run.begun.feeders h.run.acted.operator h.run.fed h.run.played.operator) (omega arith) refl refl

  -- of a client
  pub player_left : (client : ℕ) → (range : IsCount scene.script.now.clients client) → (left_between old new).notes (client + 1) ≡ (player_of scene old h.run client range).by.taken.plays.plays.mine
  player_left client range =
      let p = player_of scene old h.run client range in
      left_is (client + 1) p.player.caller p.later.caller (player_acted scene h.run.seen p.player p.later p.by) (omega arith)
      (player_stands h.run.begun.cast.operator h.run.begun.cast.clients.items h.run.begun.cast.crews.items client p.player range.0 p.there)
      (player_stands h.run.acted.operator h.run.acted.clients.items h.run.parted.closed client p.later range.0 p.is)

  -- of a worker
  pub worker_left : (i : ℕ) (role : Role) → (range : IsCount scene.script.now.n i) → (left_between old new).notes (worker_of scene.script.now.clients i role) ≡ (worker_acted scene (put_then scene old h.run) role (crew_of scene old h.run i range).crew (crew_of scene old h.run i range).later (crew_of scene old h.run i range).done).mine
  worker_left i role range =
      let w = crew_of scene old h.run i range in
      left_is (worker_of scene.script.now.clients i role) (caller_as role w.crew) (caller_as role w.later) (worker_acted scene (put_then scene old h.run) role w.crew w.later w.done) (omega arith)
      (worker_stands h.run.begun.cast.operator h.run.begun.cast.clients.items h.run.begun.cast.crews.items scene.script.now.clients i role w.crew (count_of (λ (p : Player). p.client) h.run.begun.cast.clients.items scene.script.now.clients h.run.begun.cast_is.numbers) w.there)
      (worker_stands h.run.acted.operator h.run.acted.clients.items h.run.parted.closed scene.script.now.clients i role w.later (count_of (λ (p : Player). p.client) h.run.acted.clients.items scene.script.now.clients h.run.parted.parted.numbers) w.is)
