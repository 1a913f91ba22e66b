-- What the calls that begin a phase require.
use Rattle.std.proofs.Common.{◌≡◌, ℕ, ◌+◌, ◌-◌, ◌*◌, ◌≤◌, List, [], length, Option, Some, None, refl, sym, ap, ◌∙◌, subst, arith}
use Rattle.std.specs.Prelude.{slice_get, unwrap_or, min, All, IfSome}
use Rattle.std.specs.Option.{option_map}
use Rattle.std.specs.List.{AllZip}
use Rattle.std.specs.Global.{Vec}
use Rattle.std.proofs.lemmas.List.{length-map}
use Rattle.std.proofs.lemmas.List.FromFn.{length-map-range_with_len}
use Rattle.std.proofs.lemmas.List.Elements.{All-weaker}
use Rattle.std.proofs.lemmas.Option.{slice_get_within}
use Rattle.list_core.proofs.Gets.{In_get}
use Rattle.list_core.proofs.Members.{In-All}
use Rattle.dc_talk.specs.declared.calls.Connection.{Connection}
use Rattle.dc_talk.specs.Logs.{Logged}
use Rattle.dc_talk.specs.Doors.{DoorView, IsBehind}
use Rattle.dc_door.specs.Centres.{CentreTrail}
use Rattle.dc_host.specs.HostDoors.{CentreHost, CentrePass, ArePasses}
use Rattle.dc_host.specs.Hosts.{AreFor, IsHostOf, new_row, new_rows, rows_of}
use Rattle.dc_host.proofs.Passes.{zip_long}
use Rattle.dc_host.proofs.Rows.{are_dealt}
use Rattle.dc_links.specs.Links.{rows_of as ends_of, AreGivers, AreTakers, AreGiverRows, AreTakerRows, put_between, taken_between}
use Rattle.mail_link.specs.Ends.{GiverView, TakerView}
use Rattle.dc_talk.specs.declared.sent.Sent.{Sent}
use Rattle.script_core.specs.declared.steps.Section.{Section}
use Rattle.script_core.specs.declared.steps.Step.{Step}
use Rattle.script_core.specs.declared.steps.Step.TheVariants.{Client, Operator}
use Rattle.script_core.specs.declared.rounds.Role.{Role}
use Rattle.script_core.specs.declared.rounds.Role.TheVariants.{Sender, Receiver, Reporter, Pruner}
use Rattle.script_core.specs.Deeds.{Progress}
use Rattle.script_core.specs.Steps.{IsCount, IsStepOf}
use Rattle.script_core.specs.Rows.{IsPhase, IsInPhase}
use Rattle.script_core.specs.Rounds.{worker_of}
use Rattle.script_core.specs.Scripts.{header_of, IsInRange}
use Rattle.script_core.specs.declared.script.Script.{Script}
use Rattle.run_book.specs.Happenings.{IsLinkWithin}
use Rattle.run_book.specs.Played.{new_progress}
use Rattle.run_book.proofs.Happenings.WorkerRounds.{worker_carries}
use Rattle.run_table.specs.declared.table.Table.{Table}
use Rattle.run_table.specs.Dealing.{IsOf, IsDealt}
use Rattle.run_sections.specs.Sections.{actors_of}
use Rattle.run_sections.proofs.Actors.{carrier_acts, client_acts}
use Rattle.phase_actors.specs.declared.callers.Caller.{Caller}
use Rattle.phase_play.specs.declared.crews.Crew.{Crew}
use Rattle.phase_actors.specs.declared.clients.Player.{Player}
use Rattle.phase_actors.specs.declared.scene.Scene.{Scene}
use Rattle.phase_play.specs.declared.threads.Cast.{Cast}
use Rattle.phase_actors.specs.Scenes.{IsScene}
use Rattle.phase_actors.specs.Playing.{seen_by}
use Rattle.phase_actors.specs.Actors.{IsCallerOf, IsSenderOf, IsReceiverOf, IsPlayerOf}
use Rattle.phase_play.specs.Casts.{IsCrewOf, IsCast, AreOpen}
use Rattle.thread_run.specs.declared.parts.Parts.{Parts}
use Rattle.thread_run.specs.Casts.{IsCastOf}
use Rattle.thread_run.specs.Lending.{AreInlets}
use Rattle.read_tap.specs.declared.limits.TheConstants.{MOST_READERS}
use Rattle.read_tap.specs.Shows.{ShowsView, FeederView}
use Rattle.thread_run.specs.Tables.{notes_at, come_of, between_of, IsTableOf, AreLinked, AreNumbered}
use Rattle.thread_run.specs.Taps.{AreOpenFor}
use Rattle.thread_run.proofs.Zips.{get_image}
use Rattle.thread_run.proofs.Callers.{Stands, caller_as, player_stands, worker_stands}
use Rattle.thread_run.proofs.Redeeming.{rows_in, new_at}
use Rattle.thread_run.proofs.PhaseTaps.{feeders_open, rows_open, rows_many}
use Rattle.thread_run.proofs.Carrying.{row_there}
use Rattle.thread_run.proofs.Playing.{IsPhaseBegun, numbered, count_of, centres_count, before, log_before}

-- the steps of a phase are of its clients and its operator
pub steps_dealt : (script : Script) (section : Section) → IsPhase (header_of script) section → All (IsOf script.clients) section.steps
steps_dealt script section phase = All-weaker (λ step. IsStepOf (header_of script) step × IsInPhase step) (IsOf script.clients) each section.steps phase.steps
  where
    each : (step : Step) → IsStepOf (header_of script) step × IsInPhase step → IsOf script.clients step
    each (Client client step) is = is.0.0
    each (Operator step) is = tt

-- there are callers, and no more than a host may have
pub actors_few : (script : Script) → IsInRange script → (1 ≤ actors_of script) × (actors_of script ≤ 4096)
actors_few script range = (omega arith, omega (arith, range.header.clients.1, range.header.n.1))

-- the clients of a phase play in some threads, and in no more than a tap has readers
pub threads_some : (script : Script) (threads : ℕ) → IsInRange script → threads ≡ min script.clients script.threads → (1 ≤ threads) × (threads ≤ MOST_READERS)
threads_some script threads range is = (omega (arith, is, range.header.clients.0, range.threads.0), omega (arith, is, range.threads.1))

-- a link to one of so many centres is behind a door to all of them
link_behind : (n : ℕ) (door : DoorView) (link : Option Connection) → door.centres ≡ n → IsLinkWithin n link → IfSome link (λ link. IsBehind door link.centre)
link_behind n door None count within = tt
link_behind n door (Some link) count within = (within.0, omega (arith, within.1, count))

-- a phase is begun with what its calls gave, where so many centres are counted as another number says
abbrev pub begun_of : (scene : Scene) (old : Table) (seen : List CentreTrail) (from : ℕ) (parts : Parts) (cast : Cast) → IsCastOf scene.script.now.n scene.script.now.clients parts cast → from ≡ scene.script.now.n → IsInRange scene.script.now → IsPhase (header_of scene.script.now) scene.section.now → IsDealt scene.script.now.clients scene.section.now.steps scene.dealt.now → IsTableOf scene.script.now old → AreLinked scene.script.now old → AreNumbered scene.script.now old
    → seen ≡ old.door.centres → AllZip IsHostOf seen scene.hosts.now.hosts → scene.hosts.now.callers ≡ 1 + scene.script.now.clients + 4 * from → AreFor (1 + scene.script.now.clients + 4 * from) scene.hosts.now.hosts → rows_of parts.rows.items ≡ new_rows scene.hosts.now.hosts 1 (1 + scene.script.now.clients + 4 * from)
    → length scene.links.now ≡ scene.script.now.n → AreGiverRows scene.links.now (ends_of parts.givers.items) → AreTakerRows scene.links.now (ends_of parts.takers.items) → ((from to : ℕ) → put_between (ends_of parts.givers.items) from to ≡ []) → ((from to : ℕ) → taken_between (ends_of parts.takers.items) from to ≡ []) → AreInlets old.posts scene.script.now.n parts.inlets.items
    → parts.logs.items ≡ old.logs.items → parts.stubs.items ≡ old.stubs.items → scene.taps.now ≡ old.taps.items
    → (threads : ℕ) (feeders : List FeederView) (readers : List (Vec ShowsView)) → threads ≡ min scene.script.now.clients scene.script.now.threads → AreOpenFor scene.script.now.n threads scene.taps.now feeders readers → IsPhaseBegun scene old
begun_of scene old seen from parts cast cast_is same range phase dealt table linked own centres opened callers each rows links givers takers put taken lent logs stubs taps threads feeders readers many all_open =
    let count : 1 + scene.script.now.clients + 4 * from ≡ actors_of scene.script.now = ap (λ k. 1 + scene.script.now.clients + 4 * k) same in
    record {
      range = range;
      phase = phase;
      dealt = dealt;
      table = table;
      linked = linked;
      numbered = own;
      opened = subst (λ centres. AllZip IsHostOf centres scene.hosts.now.hosts) centres opened;
      callers = callers ∙ count;
      each = subst (λ k. AreFor k scene.hosts.now.hosts) count each;
      links = links;
      parts = parts;
      rows_new = rows ∙ ap (new_rows scene.hosts.now.hosts 1) count;
      logs_are = logs;
      stubs_are = stubs;
      givers = givers;
      takers = takers;
      none_put = put;
      none_taken = taken;
      lent = lent;
      cast = cast;
      cast_is = cast_is;
      taps_are = taps;
      threads = threads;
      threads_are = many;
      feeders = feeders;
      rows = readers;
      taps_open = all_open;
    }

-- there is a row of passes for each actor
pub rows_dealt : (script : Script) (hosts : List CentreHost) (from : ℕ) (rows : List (Vec CentrePass)) → from ≡ script.n → rows_of rows ≡ new_rows hosts 1 (1 + script.clients + 4 * from) → length rows ≡ actors_of script
rows_dealt script hosts from rows same new = sym (length-map rows (λ (row : Vec CentrePass). row.items)) ∙ (ap length new ∙ (length-map-range_with_len (new_row hosts) 1 (1 + script.clients + 4 * from) ∙ ap (λ k. 1 + script.clients + 4 * k) same))

module _ (scene : Scene) (old : Table) (b : IsPhaseBegun scene old) where
  -- there is a host for each centre
  pub hosts_count : length scene.hosts.now.hosts ≡ scene.script.now.n
  hosts_count = sym (zip_long IsHostOf old.door.centres scene.hosts.now.hosts b.opened) ∙ centres_count scene old b

  -- the hosts, the links and what was dealt are a scene
  pub is_scene : IsScene scene
  is_scene = record { phase = record { range = b.range; phase = b.phase; steps_are = b.dealt }; hosts = hosts_count; links = b.links }

  -- an actor begins with new passes of its number
  begins_new : (a : ℕ) (c : Caller) → 1 ≤ a → Stands (before scene old b) a c → c.row.items ≡ new_row scene.hosts.now.hosts a
  begins_new a c low there =
      let place : 1 + (a - 1) ≡ a = omega (arith, low) in
      let rows : rows_in (before scene old b) ≡ new_rows scene.hosts.now.hosts 1 (actors_of scene.script.now) = ap rows_of b.cast_is.callers.rows_are ∙ b.rows_new in
      subst (λ k. c.row.items ≡ new_row scene.hosts.now.hosts k) place (new_at scene.hosts.now.hosts (actors_of scene.script.now) (before scene old b) [] rows (a - 1) c there)

  -- so it is a caller of the hosts
  caller_is : (a : ℕ) (c : Caller) → IsCount (actors_of scene.script.now) a → Stands (before scene old b) a c → IsCallerOf scene c
  caller_is a c range there =
      let actor : c.log.actor ≡ a = sym (ap (λ (log : Logged). log.actor) (log_before scene old b a c range.0 there)) ∙ b.table.actors a range in
      subst (λ k. ArePasses scene.hosts.now.hosts k c.row.items) (sym actor) (are_dealt scene.hosts.now.hosts a c.row.items (begins_new a c range.0 there))

  -- a worker is one
  worker_is : (i : ℕ) (role : Role) (crew : Crew) → IsCount scene.script.now.n i → slice_get b.cast.crews.items (i - 1) ≡ Some crew → IsCallerOf scene (caller_as role crew)
  worker_is i role crew range there =
      let a : ℕ = worker_of scene.script.now.clients i role in
      caller_is a (caller_as role crew) (carrier_acts scene.script.now a (worker_carries scene.script.now.n scene.script.now.clients i role range))
      (worker_stands b.cast.operator b.cast.clients.items b.cast.crews.items scene.script.now.clients i role crew (count_of (λ (p : Player). p.client) b.cast.clients.items scene.script.now.clients b.cast_is.numbers) there)

  -- the workers of a centre
  crew_is : (i : ℕ) (crew : Crew) → IsCount scene.script.now.n i → slice_get b.cast.crews.items (i - 1) ≡ Some crew → IsCrewOf scene crew
  crew_is i crew range there =
      let number : crew.centre ≡ i = numbered (λ (c : Crew). c.centre) b.cast.crews.items scene.script.now.n i crew b.cast_is.crews.numbers range there in
      let among : IsCount (length scene.links.now) i = (range.0, omega (arith, range.1, b.links)) in
      let givers : AreGivers scene.links.now i crew.sender.givers.items = subst (λ (row : List (GiverView Sent)). AreGivers scene.links.now i row) (row_there (λ (c : Crew). c.sender.givers) b.cast.crews.items b.parts.givers.items (i - 1) crew b.cast_is.crews.givers_are there) (b.givers.each i among) in
      let takers : AreTakers scene.links.now i crew.receiver.takers.items = subst (λ (row : List (TakerView Sent)). AreTakers scene.links.now i row) (row_there (λ (c : Crew). c.receiver.takers) b.cast.crews.items b.parts.takers.items (i - 1) crew b.cast_is.crews.takers_are there) (b.takers.each i among) in
      let inlets : length crew.receiver.inlets.items ≡ scene.script.now.n = sym (ap length (row_there (λ (c : Crew). c.receiver.inlets) b.cast.crews.items b.parts.inlets.items (i - 1) crew b.cast_is.crews.inlets_are there)) ∙ b.lent.rows_are i range in
      record {
        centre = subst (IsCount scene.script.now.n) (sym number) range;
        sender = subst (λ k. IsSenderOf scene k crew.sender) (sym number) (record { caller = worker_is i Sender crew range there; givers = givers });
        receiver = subst (λ k. IsReceiverOf scene k crew.receiver) (sym number) (record { caller = worker_is i Receiver crew range there; takers = takers; inlets = inlets });
        reporter = worker_is i Reporter crew range there;
        pruner = worker_is i Pruner crew range there;
      }

  -- a client
  player_is : (client : ℕ) (player : Player) → IsCount scene.script.now.clients client → slice_get b.cast.clients.items (client - 1) ≡ Some player → IsPlayerOf scene player
  player_is client player range there =
      let number : player.client ≡ client = numbered (λ (p : Player). p.client) b.cast.clients.items scene.script.now.clients client player b.cast_is.numbers range there in
      let stands : Stands (before scene old b) (client + 1) player.caller = player_stands b.cast.operator b.cast.clients.items b.cast.crews.items client player range.0 there in
      let stub : slice_get old.stubs.items (client - 1) ≡ Some player.stub = ap (λ stubs. slice_get stubs (client - 1)) (sym b.stubs_are ∙ sym b.cast_is.stubs) ∙ get_image (λ (p : Player). p.stub) b.cast.clients.items (client - 1) player there in
      let come : (between_of scene.script.now old).come client ≡ come_of (notes_at old (client + 1)) player.stub = ap (λ found. unwrap_or (option_map (come_of (notes_at old (client + 1))) found) (new_progress scene.script.now.n client scene.script.now.cache)) stub in
      let link : IsLinkWithin scene.script.now.n player.stub.client.link = subst (λ (c : Progress). IsLinkWithin scene.script.now.n c.client.link) come (b.linked client range) in
      let count : length player.caller.row.items ≡ scene.script.now.n = ap length (begins_new (client + 1) player.caller (omega arith) stands) ∙ (length-map scene.hosts.now.hosts _ ∙ hosts_count) in
      record {
        client = subst (IsCount scene.script.now.clients) (sym number) range;
        own = sym (ap (λ (c : Progress). c.client.client) come) ∙ (b.numbered client range ∙ sym number);
        caller = caller_is (client + 1) player.caller (client_acts scene.script.now client range) stands;
        linked = link_behind scene.script.now.n (seen_by player.caller).door player.stub.client.link count link;
      }

  -- all actors
  pub is_cast : IsCast scene b.cast
  is_cast = record {
    operator = caller_is 1 b.cast.operator (omega arith, omega arith) refl;
    clients = In-All (IsPlayerOf scene) b.cast.clients.items (λ player there.
        let at = In_get b.cast.clients.items player there in
        let count = count_of (λ (p : Player). p.client) b.cast.clients.items scene.script.now.clients b.cast_is.numbers in
        let place : at.0 ≡ at.0 + 1 - 1 = omega arith in
        player_is (at.0 + 1) player (omega arith, omega (arith, slice_get_within b.cast.clients.items at.0 player at.1, count)) (subst (λ k. slice_get b.cast.clients.items k ≡ Some player) place at.1));
    crews = In-All (IsCrewOf scene) b.cast.crews.items (λ crew there.
        let at = In_get b.cast.crews.items crew there in
        let count = count_of (λ (c : Crew). c.centre) b.cast.crews.items scene.script.now.n b.cast_is.crews.numbers in
        let place : at.0 ≡ at.0 + 1 - 1 = omega arith in
        crew_is (at.0 + 1) crew (omega arith, omega (arith, slice_get_within b.cast.crews.items at.0 crew at.1, count)) (subst (λ k. slice_get b.cast.crews.items k ≡ Some crew) place at.1));
  }

  -- its taps
  pub is_open : AreOpen scene b.cast b.feeders b.rows
  is_open = record {
    feeders_are = feeders_open scene.script.now.n b.threads scene.taps.now b.feeders b.rows b.taps_open;
    rows_are = rows_open scene.script.now.n b.threads scene.taps.now b.feeders b.rows b.taps_open;
    number =
        let count = count_of (λ (p : Player). p.client) b.cast.clients.items scene.script.now.clients b.cast_is.numbers in
        rows_many scene.script.now.n b.threads scene.taps.now b.feeders b.rows b.taps_open ∙ (b.threads_are ∙ ap (λ many. min many scene.script.now.threads) (sym count));
  }
