-- What a phase that was played with threads left, as a section.
use Rattle.std.proofs.Common.{◌≡◌, ◌≢◌, ℕ, ◌+◌, ◌-◌, Bool, cond, List, [], ◌∷◌, ◌++◌, length, Some, sym, ap, ◌∙◌, subst, arith}
use Rattle.std.specs.Prelude.{slice_get, unwrap_or}
use Rattle.std.specs.Option.{option_map}
use Rattle.std.specs.List.{range_with_len}
use Rattle.dc_talk.specs.declared.log.Note.{Note}
use Rattle.dc_talk.specs.Logs.{Logged}
use Rattle.dc_links.specs.Links.{rows_of as ends_of, put_to, put_between, taken_from, taken_between, inlet_from}
use Rattle.dc_mail.specs.Posts.{post_at}
use Rattle.script_core.specs.declared.rounds.Role.TheVariants.{Sender, Receiver, Reporter, Pruner}
use Rattle.script_core.specs.declared.taps.Show.{Show}
use Rattle.script_core.specs.declared.taps.TapState.{TapState}
use Rattle.script_core.specs.declared.steps.OperatorStep.{OperatorStep}
use Rattle.script_core.specs.Deeds.{Progress}
use Rattle.script_core.specs.Steps.{IsCount}
use Rattle.link_frames.specs.Frames.{framed}
use Rattle.script_core.specs.Rounds.{worker_of, mailed}
use Rattle.script_core.specs.Scripts.{header_of}
use Rattle.run_book.specs.Moves.{client_steps, operator_steps}
use Rattle.run_book.specs.Happenings.{ClientDoes}
use Rattle.run_book.specs.Played.{new_progress}
use Rattle.run_table.specs.declared.table.Table.{Table}
use Rattle.run_table.specs.Framing.{AreFramed}
use Rattle.run_table.specs.Tables.{log_at}
use Rattle.run_sections.specs.Taps.{FeedGoes}
use Rattle.run_sections.specs.Orders.{deeds_of, InOrder, none_left, one_first, ClientGoes, OperatorGoes, SenderGoes, ReporterGoes, PrunerGoes, ReceiverGoes, intake}
use Rattle.run_sections.specs.Sections.{rounds_in, receipts_in, linked, mail_left, Receives}
use Rattle.phase_play.specs.declared.crews.Crew.{Crew}
use Rattle.phase_actors.specs.declared.clients.Player.{Player}
use Rattle.phase_actors.specs.declared.scene.Scene.{Scene}
use Rattle.phase_actors.specs.Clients.{seat_of, seated, come_to}
use Rattle.run_table.specs.Taps.{taps_of}
use Rattle.phase_actors.specs.Taps.{shows_kept}
use Rattle.phase_actors.specs.Workers.{OrderGoes, intakes_of, receiving}
use Rattle.phase_actors.proofs.Reading.{order_as}
use Rattle.thread_run.specs.Tables.{notes_at, come_of, between_of}
use Rattle.thread_run.proofs.Zips.{get_image}
use Rattle.thread_run.proofs.Callers.{player_stands}
use Rattle.thread_run.proofs.Carrying.{receiver_order, none_set, row_there}
use Rattle.thread_run.proofs.Playing.{IsPhasePlayed, left_between, put_then, crew_of, player_of, log_before, log_behind, operator_left, player_left, worker_left}

-- ---- the operator's steps and its feeds

-- its steps by themselves
orders_in : (taps : List TapState) (n section step : ℕ) (shows last : ℕ → List Show) (steps : List OperatorStep) (notes : List Note) → InOrder (OrderGoes taps n) section step shows steps notes last → InOrder (OperatorGoes n) section step tt steps notes tt
orders_in taps n section step shows last [] notes none_left = none_left
orders_in taps n section step shows last (does ∷ steps) notes (one_first next mine later whole at goes rest) = one_first tt mine later whole at goes.orders (orders_in taps n section (step + 1) next last steps later rest)

-- its feeds by themselves
pub feeds_in : (taps : List TapState) (n section step : ℕ) (shows last : ℕ → List Show) (steps : List OperatorStep) (notes : List Note) → InOrder (OrderGoes taps n) section step shows steps notes last → InOrder (FeedGoes (taps_of taps)) section step shows steps notes last
feeds_in taps n section step shows last steps notes order = order_as (OrderGoes taps n) (FeedGoes (taps_of taps)) section (λ s next step does mine goes. goes.feeds) step shows last steps notes order

module _ (scene : Scene) (old new : Table) (h : IsPhasePlayed scene old new) where
  -- ---- the operator and the workers that keep nothing in mind

  -- the operator took its steps
  pub operator_plays : InOrder (OperatorGoes scene.script.now.n) scene.number 1 tt (operator_steps scene.section.now) ((left_between old new).notes 1) tt
  operator_plays = subst (λ notes. InOrder (OperatorGoes scene.script.now.n) scene.number 1 tt (operator_steps scene.section.now) notes tt) (sym (operator_left scene old new h))
      (orders_in scene.taps.now scene.script.now.n scene.number 1 (shows_kept scene.taps.now h.run.begun.feeders) (shows_kept scene.taps.now h.run.fed) (operator_steps scene.section.now) h.run.played.operator.plays.mine h.run.played.operator.plays.order)

  -- the rounds of a worker of centre i, which has this number
  rounds_play : (Does : ℕ → Unit {0} → ℕ → ℕ → List Note → Unit {0} → Type 0) (i centre a : ℕ) (mine : List Note) → centre ≡ i → (left_between old new).notes a ≡ mine → InOrder (Does centre) scene.number 1 tt (range_with_len 1 scene.script.now.rounds) mine tt → InOrder (Does i) scene.number 1 tt (rounds_in scene.script.now scene.section.now) ((left_between old new).notes a) tt
  rounds_play Does i centre a mine number is order =
      subst (λ notes. InOrder (Does i) scene.number 1 tt (rounds_in scene.script.now scene.section.now) notes tt) (sym is)
      (subst (λ (phase : Bool). InOrder (Does i) scene.number 1 tt (cond phase (range_with_len 1 scene.script.now.rounds) []) mine tt) (sym h.run.begun.phase.phase)
      (subst (λ k. InOrder (Does k) scene.number 1 tt (range_with_len 1 scene.script.now.rounds) mine tt) number order))

  -- each sender made its rounds
  pub senders_play : (i : ℕ) → IsCount scene.script.now.n i → InOrder (SenderGoes scene.script.now.n i) scene.number 1 tt (rounds_in scene.script.now scene.section.now) ((left_between old new).notes (worker_of scene.script.now.clients i Sender)) tt
  senders_play i range =
      let w = crew_of scene old h.run i range in
      rounds_play (SenderGoes scene.script.now.n) i w.crew.centre (worker_of scene.script.now.clients i Sender) w.done.sender.plays.plays.mine w.number (worker_left scene old new h i Sender range) w.done.sender.plays.plays.order

  -- each reporter
  pub reporters_play : (i : ℕ) → IsCount scene.script.now.n i → InOrder (ReporterGoes scene.script.now.n i) scene.number 1 tt (rounds_in scene.script.now scene.section.now) ((left_between old new).notes (worker_of scene.script.now.clients i Reporter)) tt
  reporters_play i range =
      let w = crew_of scene old h.run i range in
      rounds_play (ReporterGoes scene.script.now.n) i w.crew.centre (worker_of scene.script.now.clients i Reporter) w.done.reporter.plays.mine w.number (worker_left scene old new h i Reporter range) w.done.reporter.plays.order

  -- each pruner
  pub pruners_play : (i : ℕ) → IsCount scene.script.now.n i → InOrder (PrunerGoes i) scene.number 1 tt (rounds_in scene.script.now scene.section.now) ((left_between old new).notes (worker_of scene.script.now.clients i Pruner)) tt
  pruners_play i range =
      let w = crew_of scene old h.run i range in
      rounds_play PrunerGoes i w.crew.centre (worker_of scene.script.now.clients i Pruner) w.done.pruner.plays.mine w.number (worker_left scene old new h i Pruner range) w.done.pruner.plays.order

  -- ---- the receivers

  -- all that the senders mailed has frames
  abbrev pub AreMailsFramed : Type 0
  AreMailsFramed = (from : ℕ) → IsCount scene.script.now.n from → AreFramed (deeds_of ((left_between old new).notes (worker_of scene.script.now.clients from Sender)))

  -- what was taken from a link is what was put on it, where all that the senders mailed has frames
  mail_taken : AreMailsFramed → (from j : ℕ) (there : IsCount scene.script.now.n from) (range : IsCount scene.script.now.n j) → from ≢ j → taken_from (crew_of scene old h.run j range).later.receiver.takers.items from ≡ mail_left scene.script.now (left_between old new) from j
  mail_taken fit from j there range other =
      let w = crew_of scene old h.run j range in
      let v = crew_of scene old h.run from there in
      let takers = row_there (λ (c : Crew). c.receiver.takers) h.run.parted.closed h.run.later.takers.items (j - 1) w.later h.run.parted.parted.crews.takers_are w.is in
      let givers = row_there (λ (c : Crew). c.sender.givers) h.run.parted.closed h.run.later.givers.items (from - 1) v.later h.run.parted.parted.crews.givers_are v.is in
      let first = row_there (λ (c : Crew). c.sender.givers) h.run.begun.cast.crews.items h.run.begun.parts.givers.items (from - 1) v.crew h.run.begun.cast_is.crews.givers_are v.there in
      let taken : taken_between (ends_of h.run.later.takers.items) from j ≡ taken_from w.later.receiver.takers.items from = ap (λ row. taken_from row from) takers in
      let all : length (taken_from w.later.receiver.takers.items from) ≡ length (put_between (put_then scene old h.run) from j) = w.done.closed.closes.all from there (λ same. other (same ∙ w.number)) ∙ ap (λ i. length (put_between (put_then scene old h.run) from i)) w.number in
      let among : (i : ℕ) → IsCount scene.script.now.n i → IsCount (length scene.links.now) i = λ i range. (range.0, omega (arith, range.1, h.run.begun.links)) in
      sym taken
      ∙ (sym (h.drained from j (among from there) (among j range) (ap length taken ∙ all))
      ∙ (ap (λ row. put_to row j) givers
      ∙ (v.done.sender.plays.puts j range (λ same. other (sym (same ∙ v.number)))
      ∙ ((λ k. (sym (ap (λ row. put_to row j) first) ∙ h.run.begun.none_put from j) k ++ framed (mailed j (deeds_of v.done.sender.plays.plays.mine)))
      ∙ (ap (λ notes. framed (mailed j (deeds_of notes))) (sym (worker_left scene old new h from Sender there)) ∙ fit from there j)))))

  -- each receiver made its rounds, and took what was put
  pub receivers_play : AreMailsFramed → (j : ℕ) → IsCount scene.script.now.n j → Receives scene.script.now scene.number scene.section.now (between_of scene.script.now old) (left_between old new) (between_of scene.script.now new) j
  receivers_play fit j range =
      let w = crew_of scene old h.run j range in
      let inlets = row_there (λ (c : Crew). c.receiver.inlets) h.run.begun.cast.crews.items h.run.begun.parts.inlets.items (j - 1) w.crew h.run.begun.cast_is.crews.inlets_are w.there in
      let takers = row_there (λ (c : Crew). c.receiver.takers) h.run.begun.cast.crews.items h.run.begun.parts.takers.items (j - 1) w.crew h.run.begun.cast_is.crews.takers_are w.there in
      let later = row_there (λ (c : Crew). c.receiver.inlets) h.run.parted.closed h.run.later.inlets.items (j - 1) w.later h.run.parted.parted.crews.inlets_are w.is in
      record {
        first = intakes_of (receiving w.crew.receiver);
        last = intakes_of (receiving w.later.receiver);
        begins = λ from there other.
            let set : linked (operator_steps scene.section.now) from j (post_at old.posts from j).inlet ≡ (post_at old.posts from j).inlet = none_set (header_of scene.script.now) scene.section.now.steps from j (post_at old.posts from j).inlet h.run.begun.phase.steps in
            let inlet : inlet_from w.crew.receiver.inlets.items from ≡ linked (operator_steps scene.section.now) from j (post_at old.posts from j).inlet = sym (ap (λ row. inlet_from row from) inlets) ∙ (h.run.begun.lent.each from j there range ∙ sym set) in
            let none : taken_from w.crew.receiver.takers.items from ≡ [] = sym (ap (λ row. taken_from row from) takers) ∙ h.run.begun.none_taken from j in
            λ k. intake (inlet k) (none k);
        order =
            subst (λ notes. InOrder (ReceiverGoes scene.script.now.n j) scene.number 1 (intakes_of (receiving w.crew.receiver)) (receipts_in scene.script.now scene.section.now) notes (intakes_of (receiving w.later.receiver))) (sym (worker_left scene old new h j Receiver range))
            (subst (λ i. InOrder (ReceiverGoes scene.script.now.n i) scene.number 1 (intakes_of (receiving w.crew.receiver)) (receipts_in scene.script.now scene.section.now) (w.done.receiver.plays.plays.mine ++ w.done.closed.closes.mine) (intakes_of (receiving w.later.receiver))) w.number
            (receiver_order scene (put_then scene old h.run) w.crew.centre w.crew.receiver w.done.mid w.later.receiver h.run.begun.phase.phase w.done.receiver w.done.closed));
        all = λ from there other phase. mail_taken fit from j there range other;
        inlets = λ from there other. h.given.each from j there range ∙ ap (λ row. inlet_from row from) later;
      }

  -- ---- the clients

  -- how far a client had come
  come_before : (client : ℕ) (range : IsCount scene.script.now.clients client) → (between_of scene.script.now old).come client ≡ come_to (seated (seat_of (player_of scene old h.run client range).player))
  come_before client range =
      let p = player_of scene old h.run client range in
      let stub : slice_get old.stubs.items (client - 1) ≡ Some p.player.stub = ap (λ stubs. slice_get stubs (client - 1)) (sym h.run.begun.stubs_are ∙ sym h.run.begun.cast_is.stubs) ∙ get_image (λ (p : Player). p.stub) h.run.begun.cast.clients.items (client - 1) p.player p.there in
      ap (λ found. unwrap_or (option_map (come_of (notes_at old (client + 1))) found) (new_progress scene.script.now.n client scene.script.now.cache)) stub
      ∙ ap (λ (log : Logged). come_of log.notes p.player.stub) (log_before scene old h.run.begun (client + 1) p.player.caller (omega arith) (player_stands h.run.begun.cast.operator h.run.begun.cast.clients.items h.run.begun.cast.crews.items client p.player range.0 p.there))

  -- how far it has come then
  come_behind : (client : ℕ) (range : IsCount scene.script.now.clients client) → (between_of scene.script.now new).come client ≡ come_to (seated (seat_of (player_of scene old h.run client range).later))
  come_behind client range =
      let p = player_of scene old h.run client range in
      let stub : slice_get new.stubs.items (client - 1) ≡ Some p.later.stub = ap (λ stubs. slice_get stubs (client - 1)) (h.stubs_new ∙ sym h.run.parted.parted.stubs) ∙ get_image (λ (p : Player). p.stub) h.run.acted.clients.items (client - 1) p.later p.is in
      ap (λ found. unwrap_or (option_map (come_of (notes_at new (client + 1))) found) (new_progress scene.script.now.n client scene.script.now.cache)) stub
      ∙ ap (λ (log : Logged). come_of log.notes p.later.stub) (log_behind scene old new h (client + 1) p.later.caller (omega arith) (player_stands h.run.acted.operator h.run.acted.clients.items h.run.parted.closed client p.later range.0 p.is))

  -- each client took its steps
  pub clients_play : (client : ℕ) → IsCount scene.script.now.clients client → InOrder ClientGoes scene.number 1 ((between_of scene.script.now old).come client) (client_steps client scene.section.now) ((left_between old new).notes (client + 1)) ((between_of scene.script.now new).come client)
  clients_play client range =
      let p = player_of scene old h.run client range in
      let mine : List Note = p.by.taken.plays.plays.mine in
      subst (λ (first : Progress). InOrder ClientGoes scene.number 1 first (client_steps client scene.section.now) ((left_between old new).notes (client + 1)) ((between_of scene.script.now new).come client)) (sym (come_before client range))
      (subst (λ (last : Progress). InOrder ClientGoes scene.number 1 (come_to (seated (seat_of p.player))) (client_steps client scene.section.now) ((left_between old new).notes (client + 1)) last) (sym (come_behind client range))
      (subst (λ notes. InOrder ClientGoes scene.number 1 (come_to (seated (seat_of p.player))) (client_steps client scene.section.now) notes (come_to (seated (seat_of p.later)))) (sym (player_left scene old new h client range))
      (subst (λ c. InOrder ClientGoes scene.number 1 (come_to (seated (seat_of p.player))) (client_steps c scene.section.now) mine (come_to (seated (seat_of p.later)))) p.number p.by.taken.plays.plays.order)))

  -- each step as the session rule allows
  pub clients_allowed : (client : ℕ) → IsCount scene.script.now.clients client → ClientDoes ((between_of scene.script.now old).come client).client (notes_at old (client + 1)) ((left_between old new).notes (client + 1))
  clients_allowed client range =
      let p = player_of scene old h.run client range in
      let log : log_at old.logs.items (client + 1) ≡ p.player.caller.log = log_before scene old h.run.begun (client + 1) p.player.caller (omega arith) (player_stands h.run.begun.cast.operator h.run.begun.cast.clients.items h.run.begun.cast.crews.items client p.player range.0 p.there) in
      subst (λ (first : Progress). ClientDoes first.client (notes_at old (client + 1)) ((left_between old new).notes (client + 1))) (sym (come_before client range))
      (subst (λ (log : Logged). ClientDoes p.player.stub.client log.notes ((left_between old new).notes (client + 1))) (sym log)
      (subst (λ notes. ClientDoes p.player.stub.client p.player.caller.log.notes notes) (sym (player_left scene old new h client range)) p.by.taken.plays.allowed))
