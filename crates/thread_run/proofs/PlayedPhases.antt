-- A phase that was played with threads was played as a section.
use Rattle.std.proofs.Common.{◌≡◌, ℕ, zero, suc, ◌+◌, ◌-◌, ◌≤◌, ◌<◌, ◌==◌, ⊎_elim, Bool, true, false, cond, List, [], ◌∷◌, ◌++◌, length, drop, Some, None, refl, sym, ap, ◌∙◌, subst, arith}
use Rattle.std.specs.Prelude.{All}
use Rattle.std.proofs.lemmas.Bool.{cases_lt, eq-eqb, false≢true}
use Rattle.std.proofs.lemmas.Option.{same_Some}
use Rattle.std.proofs.lemmas.List.{length-map}
use Rattle.std.proofs.lemmas.Slice.Zip.{AllZip-long}
use Rattle.list_core.specs.Members.{In}
use Rattle.list_core.proofs.Gets.{get_within, all_get}
use Rattle.list_core.proofs.Members.{In_right, In_from_map}
use Rattle.list_core.proofs.Passing.{In_filter_map, In_from_filter_map}
use Rattle.dc_talk.specs.declared.ask.Ask.{Ask}
use Rattle.dc_talk.specs.declared.ask.Ask.TheVariants.{Send}
use Rattle.dc_talk.specs.declared.say.Say.{Say}
use Rattle.dc_talk.specs.declared.say.Say.TheVariants.{Records}
use Rattle.dc_talk.specs.declared.log.Fate.TheVariants.{Unheard}
use Rattle.dc_talk.specs.declared.log.Deed.TheVariants.{Asked}
use Rattle.dc_talk.specs.declared.log.Note.{Note}
use Rattle.dc_talk.specs.Logs.{Logged, exchanged_in, entries_made}
use Rattle.dc_talk.specs.Entries.{Entry}
use Rattle.host_lock.specs.Hosts.{AllStood}
use Rattle.host_lock.specs.Law.{calls_of}
use Rattle.dc_door.specs.Centres.{all_seen}
use Rattle.dc_host.specs.HostDoors.{CentreHost, CentrePass}
use Rattle.dc_host.specs.Hosts.{rows_of, new_rows, column}
use Rattle.dc_door.specs.KeptDoors.{trail_at, settings_of}
use Rattle.dc_host.proofs.Passes.{zip_long}
use Rattle.script_core.specs.declared.taps.Show.{Show}
use Rattle.script_core.specs.declared.rounds.Role.TheVariants.{Sender}
use Rattle.script_core.specs.Steps.{IsCount}
use Rattle.script_core.specs.Rounds.{worker_of}
use Rattle.run_book.specs.Parts.{entries_by, exchanged}
use Rattle.run_book.specs.Happenings.{GoesToOneOf}
use Rattle.run_book.specs.Moves.{client_steps, operator_steps}
use Rattle.run_book.proofs.Happenings.WorkerRounds.{worker_carries, sender_go}
use Rattle.run_sections.specs.Orders.{deeds_of, InOrder, SenderGoes}
use Rattle.run_sections.specs.Taps.{shows_at, FeedGoes, LookGoes, Looks, tap_behind}
use Rattle.run_sections.specs.Sections.{PlaysTaps, PlaysSection, actors_of, rounds_in}
use Rattle.run_sections.proofs.Actors.{carrier_acts}
use Rattle.run_sections.proofs.InTurn.{order_each, deed_holds}
use Rattle.run_table.specs.declared.table.Table.{Table}
use Rattle.run_table.specs.Tables.{AreHistories}
use Rattle.run_table.specs.Taps.{taps_of}
use Rattle.run_table.proofs.Framing.{mailed_framed, trail_fit}
use Rattle.phase_actors.specs.declared.callers.Caller.{Caller}
use Rattle.phase_actors.specs.declared.clients.Player.{Player}
use Rattle.phase_actors.specs.declared.scene.Scene.{Scene}
use Rattle.read_tap.specs.Shows.{IsFront, ShowsView}
use Rattle.phase_actors.specs.Taps.{shows_read, shows_kept, HasFed}
use Rattle.phase_actors.proofs.Reading.{looks_more}
use Rattle.phase_actors.proofs.Feeders.{kept_grows}
use Rattle.thread_run.specs.Taps.{row_lists, AreFrontsOf}
use Rattle.thread_run.proofs.PhaseTaps.{opened_few, kept_one, kept_first, rows_behind, closed_fronts, closed_taps, row_fronts}
use Rattle.thread_run.specs.Tables.{notes_at, between_of, IsTableOf, HasPlayed}
use Rattle.thread_run.proofs.Joining.{trail_past}
use Rattle.thread_run.proofs.Zips.{zip_get, drop_front}
use Rattle.thread_run.proofs.Callers.{Stands, HasActed}
use Rattle.thread_run.proofs.Redeeming.{rows_in, calls_noted, calls_paired, called_within, HasGrown, grown, trail_grown, all_histories, same_settings}
use Rattle.thread_run.proofs.Playing.{IsPhasePlayed, left_between, count_of, centres_count, callers_count, before, behind, did, log_before, log_behind, notes_grown, left_is, player_of, operator_left, player_left}
use Rattle.thread_run.proofs.Sectioning.{AreMailsFramed, feeds_in, operator_plays, senders_play, receivers_play, reporters_play, pruners_play, clients_play, clients_allowed}

module _ (scene : Scene) (old new : Table) (h : IsPhasePlayed scene old new) where
  -- ---- an actor

  -- an actor, as a caller
  pub record HasCaller (a : ℕ) : Type 0 where
    pub first : Caller
    pub was : Stands (before scene old h.run.begun) a first
    pub last : Caller
    pub is : Stands (behind scene old h.run) a last
    pub acted : HasActed first last
    pub actor : first.log.actor ≡ a

  -- each actor is a caller
  pub caller_of : (a : ℕ) → IsCount (actors_of scene.script.now) a → HasCaller a
  caller_of a range =
      let first = get_within (before scene old h.run.begun) (a - 1) (omega (arith, range.0, range.1, callers_count scene old h.run.begun)) in
      let pair = zip_get HasActed (before scene old h.run.begun) (behind scene old h.run) (a - 1) first.0 (did scene old h.run) first.1 in
      record {
        first = first.0;
        was = first.1;
        last = pair.partner;
        is = pair.there;
        acted = pair.related;
        actor = sym (ap (λ (log : Logged). log.actor) (log_before scene old h.run.begun a first.0 range.0 first.1)) ∙ h.run.begun.table.actors a range;
      }

  -- its notes stand behind those that it had
  pub notes_then : (a : ℕ) → IsCount (actors_of scene.script.now) a → notes_at new a ≡ notes_at old a ++ (left_between old new).notes a
  notes_then a range =
      let c = caller_of a range in
      notes_grown scene old new h a c.first c.last c.acted range.0 c.was c.is
      ∙ ap (λ notes. notes_at old a ++ notes) (sym (left_is scene old new h a c.first c.last c.acted range.0 c.was c.is))

  -- ---- a centre

  -- what came out of its host
  pub grown_at : (i : ℕ) → IsCount scene.script.now.n i → HasGrown old.door.centres scene.hosts.now.hosts (rows_of h.run.later.rows.items) h.kept (i - 1)
  grown_at i range = grown old.door.centres scene.hosts.now.hosts (rows_of h.run.later.rows.items) h.kept h.run.begun.opened h.closed (i - 1) (omega (arith, range.0, range.1, centres_count scene old h.run.begun))

  -- its trail is longer by what is past the opening of its host
  trail_longer : (i : ℕ) → (range : IsCount scene.script.now.n i) → trail_at new.door.centres i ≡ trail_at old.door.centres i ++ (grown_at i range).closed.whole.0
  trail_longer i range =
      let place : suc (i - 1) ≡ i = omega (arith, range.0) in
      ap (λ centres. trail_at centres i) h.door_is
      ∙ subst (λ k. trail_at (all_seen h.kept) k ≡ trail_at old.door.centres k ++ (grown_at i range).closed.whole.0) place (trail_grown old.door.centres scene.hosts.now.hosts (rows_of h.run.later.rows.items) h.kept h.run.begun.opened h.closed (i - 1) (grown_at i range))

  -- which is what is left of it
  entries_left : (i : ℕ) → (range : IsCount scene.script.now.n i) → (left_between old new).entries i ≡ (grown_at i range).closed.whole.0
  unfolding left_between
  entries_left i range = drop_front (trail_at old.door.centres i) (grown_at i range).closed.whole.0 (trail_at new.door.centres i) (trail_longer i range)

  -- where there was no entry all stand behind
  none_before : (i : ℕ) → trail_at old.door.centres i ≡ [] → trail_at new.door.centres i ≡ trail_at old.door.centres i ++ (left_between old new).entries i
  unfolding left_between
  none_before i none = subst (λ (front : List Entry). trail_at new.door.centres i ≡ front ++ drop (length front) (trail_at new.door.centres i)) (sym none) refl

  -- its new entries stand behind those that it had
  pub trails_then : (i : ℕ) → trail_at new.door.centres i ≡ trail_at old.door.centres i ++ (left_between old new).entries i
  trails_then i = ⊎_elim
      (λ (zeroth : i < 1). none_before i (trail_past scene.script.now old h.run.begun.table i (λ range. omega (arith, range.0, zeroth))))
      (λ (low : 1 ≤ i). ⊎_elim
      (λ (within : i < scene.script.now.n + 1).
      let range : IsCount scene.script.now.n i = (low, omega (arith, within)) in
      trail_longer i range ∙ ap (λ entries. trail_at old.door.centres i ++ entries) (sym (entries_left i range)))
      (λ (past : scene.script.now.n + 1 ≤ i). none_before i (trail_past scene.script.now old h.run.begun.table i (λ range. omega (arith, range.1, past))))
      (cases_lt i (scene.script.now.n + 1)))
      (cases_lt i 1)

  -- each is of an actor
  pub callers_left : (i : ℕ) (entry : Entry) → IsCount scene.script.now.n i → In entry ((left_between old new).entries i) → IsCount (actors_of scene.script.now) entry.caller
  callers_left i entry range there =
      let g = grown_at i range in
      let count : g.host.callers ≡ actors_of scene.script.now = all_get (λ (host : CentreHost). host.callers ≡ actors_of scene.script.now) scene.hosts.now.hosts (i - 1) g.host h.run.begun.each g.at in
      called_within (actors_of scene.script.now) g.host.callers g.closed.whole.0 count g.closed.whole.3 entry (subst (In entry) (entries_left i range) there)

  -- and those of an actor are what its notes exchanged
  pub paired_left : (i a : ℕ) → IsCount scene.script.now.n i → IsCount (actors_of scene.script.now) a → entries_by a ((left_between old new).entries i) ≡ exchanged i ((left_between old new).notes a)
  paired_left i a centre actor =
      let g = grown_at i centre in
      let c = caller_of a actor in
      let here : 1 + (a - 1) ≡ a = omega (arith, actor.0) in
      let place : suc (i - 1) ≡ i = omega (arith, centre.0) in
      let rows : rows_in (before scene old h.run.begun) ≡ new_rows scene.hosts.now.hosts 1 (actors_of scene.script.now) = ap rows_of h.run.begun.cast_is.callers.rows_are ∙ h.run.begun.rows_new in
      let stood : AllStood g.closed.whole.0 (column (i - 1) (rows_in (behind scene old h.run))) = subst (λ (rows : List (List CentrePass)). AllStood g.closed.whole.0 (column (i - 1) rows)) (sym (ap rows_of h.run.parted.parted.callers.rows_are)) g.closed.whole.2 in
      let calls : calls_of (1 + (a - 1)) g.closed.whole.0 ≡ entries_made (1 + (a - 1)) (suc (i - 1)) (deeds_of c.acted.mine) =
      calls_noted scene.hosts.now.hosts (actors_of scene.script.now) (before scene old h.run.begun) (behind scene old h.run) rows (i - 1) (a - 1) g.host g.closed.whole.0 c.first c.last g.at c.was c.is c.acted (c.actor ∙ sym here) stood in
      let own : calls_of a g.closed.whole.0 ≡ entries_made a i (deeds_of c.acted.mine) = subst (λ k. calls_of a g.closed.whole.0 ≡ entries_made a k (deeds_of c.acted.mine)) place (subst (λ k. calls_of k g.closed.whole.0 ≡ entries_made k (suc (i - 1)) (deeds_of c.acted.mine)) here calls) in
      ap (entries_by a) (entries_left i centre)
      ∙ (calls_paired a i c.acted.mine g.closed.whole.0 own
      ∙ ap (exchanged i) (sym (left_is scene old new h a c.first c.last c.acted actor.0 c.was c.is)))

  -- ---- the table behind it

  -- the parts are still those of the script
  pub table_then : IsTableOf scene.script.now new
  table_then = record {
    settings = ap settings_of h.door_is ∙ (same_settings old.door.centres scene.hosts.now.hosts (rows_of h.run.later.rows.items) h.kept h.run.begun.opened h.closed ∙ h.run.begun.table.settings);
    histories = subst AreHistories (sym h.door_is) (all_histories old.door.centres scene.hosts.now.hosts (rows_of h.run.later.rows.items) h.kept h.run.begun.opened h.closed);
    stubs = ap length (h.stubs_new ∙ sym h.run.parted.parted.stubs) ∙ (length-map h.run.acted.clients.items (λ (p : Player). p.stub) ∙ count_of (λ (p : Player). p.client) h.run.acted.clients.items scene.script.now.clients h.run.parted.parted.numbers);
    logs = ap length (h.logs_new ∙ sym h.run.parted.parted.callers.logs_are) ∙ (length-map (behind scene old h.run) (λ (c : Caller). c.log) ∙ (sym (zip_long HasActed (before scene old h.run.begun) (behind scene old h.run) (did scene old h.run)) ∙ callers_count scene old h.run.begun));
    actors = λ a range.
        let c = caller_of a range in
        ap (λ (log : Logged). log.actor) (log_behind scene old new h a c.last range.0 c.is) ∙ (c.acted.same.0 ∙ c.actor);
  }

  -- ---- the taps

  -- what the feeders keep at first is what the taps show
  first_shows : shows_kept scene.taps.now h.run.begun.feeders ≡ shows_at (taps_of old.taps.items)
  first_shows = kept_first scene.script.now.n h.run.begun.threads scene.taps.now h.run.begun.feeders h.run.begun.rows h.run.begun.taps_open ∙ ap (λ taps. shows_at (taps_of taps)) h.run.begun.taps_are

  -- no more taps were opened than there are
  fed_few : length h.run.fed ≤ length old.taps.items
  fed_few =
      let first = opened_few scene.script.now.n h.run.begun.threads scene.taps.now h.run.begun.feeders h.run.begun.rows h.run.begun.taps_open in
      omega (arith, first, AllZip-long HasFed h.run.begun.feeders h.run.fed h.run.played.operator.fed, ap length h.run.begun.taps_are)

  -- each reader has seen the first shows of its feeder
  seen_fronts : All (AreFrontsOf h.run.fed) (row_lists h.run.seen)
  seen_fronts = closed_fronts old.taps.items h.run.fed (row_lists h.run.seen) new.taps.items fed_few
      (rows_behind scene.script.now.n h.run.begun.threads scene.taps.now h.run.begun.feeders h.run.begun.rows h.run.begun.taps_open h.run.fed h.run.seen h.run.played.operator.fed h.run.played.rows_read) h.taps_closed

  -- so has each row of them
  row_seen : (row : List ShowsView) → In row ([] ∷ row_lists h.run.seen) → (centre : ℕ) → IsFront (shows_read scene.taps.now row centre) (shows_kept scene.taps.now h.run.fed centre)
  row_seen row there = row_fronts scene.taps.now h.run.fed h.run.seen row
      (λ centre. subst (λ shows. IsFront shows (shows_kept scene.taps.now h.run.fed centre)) (kept_one scene.script.now.n h.run.begun.threads scene.taps.now h.run.begun.feeders h.run.begun.rows h.run.begun.taps_open centre) (kept_grows scene.taps.now h.run.begun.feeders h.run.fed h.run.played.operator.fed centre))
      seen_fronts there

  -- the operator fed the taps
  feeds_then : InOrder (FeedGoes (taps_of old.taps.items)) scene.number 1 (shows_at (taps_of old.taps.items)) (operator_steps scene.section.now) ((left_between old new).notes 1) (shows_kept scene.taps.now h.run.fed)
  feeds_then =
      let last : ℕ → List Show = shows_kept scene.taps.now h.run.fed in
      let steps = operator_steps scene.section.now in
      subst (λ notes. InOrder (FeedGoes (taps_of old.taps.items)) scene.number 1 (shows_at (taps_of old.taps.items)) steps notes last) (sym (operator_left scene old new h))
      (subst (λ shows. InOrder (FeedGoes (taps_of old.taps.items)) scene.number 1 shows steps h.run.played.operator.plays.mine last) first_shows
      (subst (λ taps. InOrder (FeedGoes (taps_of taps)) scene.number 1 (shows_kept scene.taps.now h.run.begun.feeders) steps h.run.played.operator.plays.mine last) h.run.begun.taps_are
      (feeds_in scene.taps.now scene.script.now.n scene.number 1 (shows_kept scene.taps.now h.run.begun.feeders) last steps h.run.played.operator.plays.mine h.run.played.operator.plays.order)))

  -- each client looked at their shows
  looks_then : (client : ℕ) → IsCount scene.script.now.clients client → Looks (taps_of old.taps.items) (shows_kept scene.taps.now h.run.fed) client scene.number (client_steps client scene.section.now) ((left_between old new).notes (client + 1))
  looks_then client range =
      let p = player_of scene old h.run client range in
      let shows : ℕ → List Show = shows_kept scene.taps.now h.run.fed in
      let plays = p.by.taken.plays in
      let own = looks_more (taps_of scene.taps.now) (shows_read scene.taps.now p.by.row) shows p.player.client scene.number 1 (row_seen p.by.row p.by.there) (λ centre. 0) plays.last (client_steps p.player.client scene.section.now) plays.plays.mine plays.looks in
      record {
        last = plays.last;
        order =
            subst (λ notes. InOrder (LookGoes (taps_of old.taps.items) shows client) scene.number 1 (λ centre. 0) (client_steps client scene.section.now) notes plays.last) (sym (player_left scene old new h client range))
            (subst (λ c. InOrder (LookGoes (taps_of old.taps.items) shows c) scene.number 1 (λ centre. 0) (client_steps c scene.section.now) plays.plays.mine plays.last) p.number
            (subst (λ taps. InOrder (LookGoes (taps_of taps) shows p.player.client) scene.number 1 (λ centre. 0) (client_steps p.player.client scene.section.now) plays.plays.mine plays.last) h.run.begun.taps_are own));
      }

  -- and each tap shows the last of its shows then
  behind_then : (i : ℕ) → IsCount scene.script.now.n i → taps_of new.taps.items i ≡ tap_behind (taps_of old.taps.items i) (shows_kept scene.taps.now h.run.fed i)
  behind_then zero range = absurd (omega (arith, range.0))
  behind_then (suc place) range =
      closed_taps old.taps.items h.run.fed (row_lists h.run.seen) new.taps.items fed_few h.taps_closed place
      ∙ ap (λ taps. tap_behind (taps_of old.taps.items (suc place)) (shows_kept taps h.run.fed (suc place))) (sym h.run.begun.taps_are)

  taps_then : PlaysTaps scene.script.now scene.number scene.section.now (between_of scene.script.now old) (left_between old new) (between_of scene.script.now new)
  taps_then = record { shows = shows_kept scene.taps.now h.run.fed; feeds = feeds_then; looks = looks_then; behind = behind_then }

  -- ---- what the senders mailed

  -- their asks go to centres that there are
  sender_reaches : (from : ℕ) → IsCount scene.script.now.n from → (note : Note) → In note ((left_between old new).notes (worker_of scene.script.now.clients from Sender)) → GoesToOneOf scene.script.now.n note.deed
  sender_reaches from range = order_each (SenderGoes scene.script.now.n from) scene.number (λ note. GoesToOneOf scene.script.now.n note.deed) 1 tt tt (rounds_in scene.script.now scene.section.now) ((left_between old new).notes (worker_of scene.script.now.clients from Sender))
      (λ s next step m mine here among does note there. deed_holds (GoesToOneOf scene.script.now.n) mine note (sender_go scene.script.now.n from (deeds_of mine) range does) there) (senders_play scene old new h from range)

  -- an entry that exchanged this
  asked_so : (a : ℕ) (entry : Entry) (pair : Ask × Say) (test : Bool) → cond test (Some (entry.ask, entry.say)) None ≡ Some pair → (entry.ask, entry.say) ≡ pair
  asked_so a entry pair true is = same_Some (entry.ask, entry.say) pair is
  asked_so a entry pair false is = absurd cc

  -- so it has frames
  mails_framed : AreMailsFramed scene old new h
  mails_framed from range =
      let a : ℕ = worker_of scene.script.now.clients from Sender in
      let notes = (left_between old new).notes a in
      mailed_framed (deeds_of notes) (λ i after most list among.
      let pair : Ask × Say = (Send after most, Records list) in
      let found = In_from_map (λ (note : Note). note.deed) notes (Asked i (Send after most) (Unheard (Records list))) among in
      let centre : IsCount scene.script.now.n i = subst (GoesToOneOf scene.script.now.n) (sym found.2) (sender_reaches from range found.0 found.1) in
      let actor : IsCount (actors_of scene.script.now) a = carrier_acts scene.script.now a (worker_carries scene.script.now.n scene.script.now.clients from Sender range) in
      let told : exchanged_in i found.0.deed ≡ Some pair = ap (exchanged_in i) (sym found.2) ∙ ap (λ test. cond test (Some pair) None) (eq-eqb i i refl) in
      let made = In_from_filter_map (λ (entry : Entry). cond (entry.caller == a) (Some (entry.ask, entry.say)) None) ((left_between old new).entries i) pair
      (subst (In pair) (sym (paired_left i a centre actor)) (In_filter_map (λ (note : Note). exchanged_in i note.deed) notes found.0 pair found.1 told)) in
      let so = asked_so a made.0 pair (made.0.caller == a) made.2 in
      let there : In made.0 (trail_at new.door.centres i) = subst (In made.0) (sym (trails_then i)) (In_right (trail_at old.door.centres i) ((left_between old new).entries i) made.0 made.1) in
      trail_fit scene.script.now h.run.begun.range new.door.centres table_then.settings table_then.histories i after most made.0 list there (ap (λ (pair : Ask × Say). pair.0) so) (ap (λ (pair : Ask × Say). pair.1) so))

  -- what is left is what a section leaves
  pub plays_section : PlaysSection scene.script.now scene.number scene.section.now (between_of scene.script.now old) (left_between old new) (between_of scene.script.now new)
  plays_section = record {
    clients = clients_play scene old new h;
    operator = operator_plays scene old new h;
    senders = senders_play scene old new h;
    receivers = receivers_play scene old new h mails_framed;
    reporters = reporters_play scene old new h;
    pruners = pruners_play scene old new h;
    taps = taps_then;
    callers = callers_left;
    paired = paired_left;
  }

  -- all of it
  pub phase_played : HasPlayed scene.script.now scene.number scene.section.now old new
  phase_played = record {
    left = left_between old new;
    plays = plays_section;
    is = table_then;
    notes = notes_then;
    trails = trails_then;
    allowed = clients_allowed scene old new h;
  }
