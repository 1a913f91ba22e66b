-- What the calls that end a phase require.
use Rattle.std.proofs.Common.{◌≡◌, ◌-◌, ◌≤◌, List, [], ◌∷◌, map, length, sym, ap, ◌∙◌, subst, arith}
use Rattle.std.specs.Prelude.{All}
use Rattle.std.specs.List.{AllZip, range_with_len}
use Rattle.std.specs.Global.{Vec}
use Rattle.std.proofs.lemmas.List.{length-map}
use Rattle.std.proofs.lemmas.List.Elements.{All-nil, All-cons, All-head, All-tail, All-map}
use Rattle.ids_core.specs.declared.limits.TheConstants.{MOST_CENTRES}
use Rattle.vv_core.specs.Vectors.{centres}
use Rattle.dc_talk.specs.declared.sent.Sent.{Sent}
use Rattle.dc_door.specs.Centres.{KeptCentre, IsKeptCentre}
use Rattle.dc_host.specs.Hosts.{bare_rows, rows_of, new_rows, AreClosed}
use Rattle.dc_links.specs.Links.{rows_of as ends_of, AreGivers, AreTakers, AreGiverRows, AreTakerRows}
use Rattle.mail_link.specs.Ends.{GiverView, TakerView}
use Rattle.script_core.specs.Links.{Inlet}
use Rattle.script_core.specs.Steps.{IsCount}
use Rattle.run_table.specs.declared.table.Table.{Table}
use Rattle.run_sections.specs.Sections.{actors_of}
use Rattle.phase_play.specs.declared.crews.Crew.{Crew}
use Rattle.phase_actors.specs.declared.clients.Player.{Player}
use Rattle.phase_actors.specs.declared.scene.Scene.{Scene}
use Rattle.phase_play.specs.declared.threads.Cast.{Cast}
use Rattle.read_tap.specs.Shows.{ShowsView, FeederView}
use Rattle.phase_actors.specs.Actors.{IsSenderOf, IsReceiverOf}
use Rattle.phase_play.specs.Casts.{IsCrewOf, HasCrewPlayed, HasTakenStepsBy, HaveAllPlayed}
use Rattle.phase_actors.proofs.Passing.{caller_stays}
use Rattle.thread_run.proofs.Zips.{zip_same}
use Rattle.thread_run.proofs.Callers.{HasCrewDone}
use Rattle.thread_run.proofs.Redeeming.{rows_stay, as_many, all_kept}
use Rattle.thread_run.proofs.Carrying.{row_there}
use Rattle.thread_run.proofs.Playing.{IsPhaseBegun, IsPhaseRun, count_of, centres_count, before, behind, done, did, put_then, crew_of}
use Rattle.thread_run.proofs.Beginning.{is_cast}
use Rattle.thread_run.proofs.PhaseTaps.{rows_behind}
use Rattle.thread_run.specs.Taps.{row_lists, AreReadsOf}

-- what holds of elements holds so of their partners
all_partners : {X Y : Type 0} (R : X → Y → Type 0) (P : X → Type 0) (Q : Y → Type 0) (xs : List X) (ys : List Y) → ((x : X) (y : Y) → P x → R x y → Q y) → All P xs → AllZip R xs ys → All Q ys
all_partners R P Q [] [] each all z = All-nil Q
all_partners R P Q [] (y ∷ ys) each all z = absurd z
all_partners R P Q (x ∷ xs) [] each all z = absurd z
all_partners R P Q (x ∷ xs) (y ∷ ys) each all z = All-cons Q y ys (each x y (All-head P x xs all) z.0) (all_partners R P Q xs ys each (All-tail P x xs all) z.1)

-- ---- behind the threads

module _ (scene : Scene) (old : Table) (b : IsPhaseBegun scene old) (acted : Cast) (fed : List FeederView) (seen : List (Vec ShowsView)) (played : HaveAllPlayed scene b.cast b.feeders b.rows acted fed seen) where
  -- the workers are still those of the scene
  pub crews_are : All (IsCrewOf scene) acted.crews.items
  crews_are = all_partners (HasCrewPlayed scene) (IsCrewOf scene) (IsCrewOf scene) b.cast.crews.items acted.crews.items still (is_cast scene old b).crews played.crews
    where
      still : (x y : Crew) → IsCrewOf scene x → HasCrewPlayed scene x y → IsCrewOf scene y
      still x y is did = record {
        centre = subst (IsCount scene.script.now.n) (sym did.centre) is.centre;
        sender = subst (λ i. IsSenderOf scene i y.sender) (sym did.centre) did.sender.is;
        receiver = subst (λ i. IsReceiverOf scene i y.receiver) (sym did.centre) did.receiver.is;
        reporter = caller_stays scene.hosts.now.hosts x.reporter y.reporter did.reporter.same is.reporter;
        pruner = caller_stays scene.hosts.now.hosts x.pruner y.pruner did.pruner.same is.pruner;
      }

  -- of the same centres
  pub centres_are : map (λ (c : Crew). c.centre) acted.crews.items ≡ centres scene.script.now.n
  centres_are = zip_same (HasCrewPlayed scene) (λ (c : Crew). c.centre) (λ (c : Crew). c.centre) b.cast.crews.items acted.crews.items (λ x y did. did.centre) played.crews ∙ b.cast_is.crews.numbers

  -- and the clients are the same
  pub clients_are : map (λ (p : Player). p.client) acted.clients.items ≡ range_with_len 1 scene.script.now.clients
  clients_are = zip_same (HasTakenStepsBy scene seen) (λ (p : Player). p.client) (λ (p : Player). p.client) b.cast.clients.items acted.clients.items (λ x y did. did.taken.plays.client) played.clients ∙ b.cast_is.numbers

  -- each reader is still one of its feeder's tap
  pub readers_are : All (AreReadsOf fed) (row_lists seen)
  readers_are = rows_behind scene.script.now.n b.threads scene.taps.now b.feeders b.rows b.taps_open fed seen played.operator.fed played.rows_read

-- ---- behind the closing rounds

module _ (scene : Scene) (old : Table) (run : IsPhaseRun scene old) where
  -- a row for each centre
  rows_count : {X : Type 0} (f : Crew → Vec X) (rows : List (Vec X)) → map f run.parted.closed ≡ rows → length rows ≡ scene.script.now.n
  rows_count f rows are = sym (ap length are) ∙ (length-map run.parted.closed f ∙ count_of (λ (c : Crew). c.centre) run.parted.closed scene.script.now.n run.parted.parted.crews.numbers)

  -- the ends that put are those of the links
  pub giver_rows : AreGiverRows scene.links.now (ends_of run.later.givers.items)
  giver_rows = record {
    number = length-map run.later.givers.items (λ (row : Vec (GiverView Sent)). row.items) ∙ (rows_count (λ (c : Crew). c.sender.givers) run.later.givers.items run.parted.parted.crews.givers_are ∙ sym run.begun.links);
    each = λ i among.
        let w = crew_of scene old run i (among.0, omega (arith, among.1, run.begun.links)) in
        let own : AreGivers scene.links.now i w.later.sender.givers.items = subst (λ k. AreGivers scene.links.now k w.later.sender.givers.items) w.number w.done.sender.is.givers in
        subst (λ (row : List (GiverView Sent)). AreGivers scene.links.now i row) (sym (row_there (λ (c : Crew). c.sender.givers) run.parted.closed run.later.givers.items (i - 1) w.later run.parted.parted.crews.givers_are w.is)) own;
  }

  -- so are those that take
  pub taker_rows : AreTakerRows scene.links.now (ends_of run.later.takers.items)
  taker_rows = record {
    number = length-map run.later.takers.items (λ (row : Vec (TakerView Sent)). row.items) ∙ (rows_count (λ (c : Crew). c.receiver.takers) run.later.takers.items run.parted.parted.crews.takers_are ∙ sym run.begun.links);
    each = λ i among.
        let w = crew_of scene old run i (among.0, omega (arith, among.1, run.begun.links)) in
        let own : AreTakers scene.links.now i w.later.receiver.takers.items = subst (λ k. AreTakers scene.links.now k w.later.receiver.takers.items) w.number w.done.closed.is.takers in
        subst (λ (row : List (TakerView Sent)). AreTakers scene.links.now i row) (sym (row_there (λ (c : Crew). c.receiver.takers) run.parted.closed run.later.takers.items (i - 1) w.later run.parted.parted.crews.takers_are w.is)) own;
  }

  -- the passes are those of the hosts
  pub rows_back : bare_rows (rows_of run.later.rows.items) ≡ new_rows scene.hosts.now.hosts 1 scene.hosts.now.callers
  rows_back =
      ap (λ rows. bare_rows (rows_of rows)) (sym run.parted.parted.callers.rows_are)
      ∙ (rows_stay scene.hosts.now.hosts (actors_of scene.script.now) (before scene old run.begun) (behind scene old run) (ap rows_of run.begun.cast_is.callers.rows_are ∙ run.begun.rows_new) (did scene old run)
      ∙ ap (new_rows scene.hosts.now.hosts 1) (sym run.begun.callers))

  -- a row of faults for each centre, with one from each
  pub inlets_count : length run.later.inlets.items ≡ scene.script.now.n
  inlets_count = rows_count (λ (c : Crew). c.receiver.inlets) run.later.inlets.items run.parted.parted.crews.inlets_are

  -- each has one from each centre
  pub inlets_each : All (λ (row : Vec (Inlet Sent)). length row.items ≡ scene.script.now.n) run.later.inlets.items
  inlets_each =
      subst (λ (rows : List (Vec (Inlet Sent))). All (λ row. length row.items ≡ scene.script.now.n) rows) run.parted.parted.crews.inlets_are
      (All-map (λ (row : Vec (Inlet Sent)). length row.items ≡ scene.script.now.n) (λ (c : Crew). c.receiver.inlets) run.parted.closed
      (all_partners (HasCrewDone scene (put_then scene old run)) (IsCrewOf scene) (λ (c : Crew). length c.receiver.inlets.items ≡ scene.script.now.n) run.begun.cast.crews.items run.parted.closed (λ x y is did. did.closed.is.inlets) (is_cast scene old run.begun).crews (done scene old run)))

  -- what came out of the hosts may go before a door
  module _ (kept : List KeptCentre) (closed : AreClosed scene.hosts.now.hosts (rows_of run.later.rows.items) kept) where
    -- there are as many as a door may have
    pub kept_few : (1 ≤ length kept) × (length kept ≤ MOST_CENTRES)
    kept_few =
        let count : length kept ≡ scene.script.now.n = as_many old.door.centres scene.hosts.now.hosts (rows_of run.later.rows.items) kept run.begun.opened closed ∙ centres_count scene old run.begun in
        (omega (arith, count, run.begun.range.header.n.0), omega (arith, count, run.begun.range.header.n.1))

    -- each is kept with its trail
    pub kept_is : All IsKeptCentre kept
    kept_is = all_kept old.door.centres scene.hosts.now.hosts (rows_of run.later.rows.items) kept run.begun.opened closed
