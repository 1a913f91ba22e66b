-- A step of a client or of the operator, as a section of its own.
use Rattle.std.proofs.Common.{◌≡◌, ◌≢◌, ⊎_elim, ℕ, ◌+◌, ◌-◌, Bool, true, false, cond, fold, List, [], ◌∷◌, ◌++◌, map, length, Option, Some, None, refl, sym, ap, ◌∙◌, subst, arith}
use Rattle.std.specs.Prelude.{All, slice_get, slice_set, IfSome, Result, OnOk, unwrap_or, ◌==◌, ◌&&◌}
use Rattle.std.specs.Option.{option_map}
use Rattle.std.specs.List.{cons_option}
use Rattle.std.proofs.lemmas.Bool.{cases_eq, eq-eqb, ne_eqb}
use Rattle.std.proofs.lemmas.Option.{slice_get_within}
use Rattle.std.proofs.lemmas.List.{append-nil, length-map}
use Rattle.std.proofs.lemmas.List.FromFn.{length-map-range_with_len}
use Rattle.std.proofs.lemmas.List.Folds.{fold-map}
use Rattle.std.proofs.Math.ListN.{length-set}
use Rattle.list_core.specs.Choices.{when}
use Rattle.list_core.proofs.Gets.{set_else, set_here}
use Rattle.dc_talk.specs.declared.calls.Connection.{Connection}
use Rattle.dc_talk.specs.declared.log.Deed.{Deed}
use Rattle.dc_talk.specs.declared.log.Note.{Note}
use Rattle.dc_talk.specs.declared.settings.Settings.{Settings}
use Rattle.dc_talk.specs.Clients.{Client}
use Rattle.dc_talk.specs.Logs.{marked}
use Rattle.dc_talk.specs.Doors.{IsBehind}
use Rattle.dc_talk.specs.Rule.{after}
use Rattle.dc_door.specs.Centres.{CentreTrail}
use Rattle.dc_door.specs.KeptDoors.{trail_at, shown_of}
use Rattle.dc_mail.specs.Posts.{post_at}
use Rattle.script_core.specs.declared.script.Script.{Script}
use Rattle.script_core.specs.declared.steps.ClientStep.{ClientStep}
use Rattle.script_core.specs.declared.steps.OperatorStep.{OperatorStep}
use Rattle.script_core.specs.declared.steps.OperatorStep.TheVariants.{Link}
use Rattle.script_core.specs.declared.steps.Step.{Step}
use Rattle.script_core.specs.declared.steps.Step.TheVariants.{Client as ByClient, Operator as ByOperator}
use Rattle.script_core.specs.Deeds.{Progress, StepDeeds, armed_after, stepped}
use Rattle.script_core.specs.Links.{inlet_set}
use Rattle.script_core.specs.Mail.{Post, post_set}
use Rattle.script_core.specs.Orders.{OperatorDeeds}
use Rattle.script_core.specs.Rows.{section_of}
use Rattle.script_core.specs.Scripts.{header_of}
use Rattle.script_core.specs.Steps.{IsCount, IsStep, IsStepOf, IsOwn}
use Rattle.script_core.specs.Taps.{FeedsSo, LooksSo, taps_then}
use Rattle.dc_worker.proofs.Work.{on_turn}
use Rattle.client_stub.specs.Playing.{StubView, IsLinkBehind}
use Rattle.run_book.specs.Setups.{setup_of, settings_among}
use Rattle.run_book.specs.Happenings.{ClientDoes, IsLinkWithin}
use Rattle.run_book.specs.Moves.{client_steps, operator_does}
use Rattle.run_book.specs.Played.{IsAt, new_progress, post_after}
use Rattle.run_book.proofs.Happenings.Entries.{deeds_marked}
use Rattle.run_book.proofs.Happenings.Playing.{all_at}
use Rattle.run_table.specs.declared.table.Table.{Table}
use Rattle.run_table.specs.Tables.{log_at, log_in, HasStepped, HasOperated}
use Rattle.run_table.specs.Taps.{taps_of}
use Rattle.run_table.proofs.Allowing.{allows_does}
use Rattle.run_sections.specs.Orders.{deeds_of, InOrder, ClientGoes, OperatorGoes}
use Rattle.run_sections.specs.Sections.{actors_of, Left, PlaysTaps, linked}
use Rattle.run_sections.proofs.Tapping.{look_taps, feed_taps}
use Rattle.thread_run.specs.Tables.{notes_at, come_of, between_of, AreLinked, AreNumbered, IsTableOf, HasPlayed}
use Rattle.thread_run.proofs.Alone.{order_none, order_one, turn_in, notes_of_deeds, left_alone, HasDoneAlone, left_own, left_none, alone_notes, line_played}

-- ---- how far clients are

-- there are as many centres as the script says
pub centres_many : (script : Script) (table : Table) → IsTableOf script table → length table.door.centres ≡ script.n
centres_many script table is =
    sym (length-map table.door.centres (λ (centre : CentreTrail). centre.settings))
    ∙ (ap (λ (list : List Settings). length list) is.settings ∙ length-map-range_with_len (settings_among script.n script.k (setup_of script)) 1 script.n)

-- how far a client with a stub has come
pub come_at : (script : Script) (table : Table) (client : ℕ) (stub : StubView) → slice_get table.stubs.items (client - 1) ≡ Some stub → (between_of script table).come client ≡ come_of (notes_at table (client + 1)) stub
come_at script table client stub there = ap (λ (found : Option StubView). unwrap_or (option_map (come_of (notes_at table (client + 1))) found) (new_progress script.n client script.cache)) there

-- a client with the same stub and the same notes has come as far
come_same : (script : Script) (old new : Table) (client : ℕ) → slice_get new.stubs.items (client - 1) ≡ slice_get old.stubs.items (client - 1) → notes_at new (client + 1) ≡ notes_at old (client + 1) → (between_of script new).come client ≡ (between_of script old).come client
come_same script old new client stubs notes = λ k. unwrap_or (option_map (come_of (notes k)) (stubs k)) (new_progress script.n client script.cache)

-- the link of a client is behind the door
pub stub_linked : (script : Script) (table : Table) (client : ℕ) (stub : StubView) → IsTableOf script table → AreLinked script table → IsCount script.clients client → slice_get table.stubs.items (client - 1) ≡ Some stub → IsLinkBehind (shown_of table.door) stub.client
stub_linked script table client stub is linked range there = behind stub.client.link (subst (λ (p : Progress). IsLinkWithin script.n p.client.link) (come_at script table client stub there) (linked client range))
  where
    behind : (link : Option Connection) → IsLinkWithin script.n link → IfSome link (λ link. IsBehind (shown_of table.door) link.centre)
    behind None within = tt
    behind (Some link) within = (within.0, omega (arith, within.1, centres_many script table is))

-- ---- a client's step

module _ (script : Script) (number client : ℕ) (step : ClientStep) (old new : Table) (is : IsTableOf script old) (numbered : AreNumbered script old) (range : IsCount script.clients client) (h : HasStepped (turn_in number (client + 1)) step old new) where
  -- the deeds
  abbrev done : List Deed
  done = h.takes.deeds

  -- what the client leaves
  abbrev theirs : Left
  theirs = left_alone number (client + 1) done

  acts : IsCount (actors_of script) (client + 1)
  acts = (omega arith, omega (arith, range.1))

  alone : HasDoneAlone number (client + 1) done old new
  alone = record {
    logs = h.turn_is.logs ∙ ap (slice_set old.logs.items (client + 1 - 1)) h.takes.grows.log;
    settings = h.turn_is.settings;
    trails = λ i. h.takes.grows.door.seen i ∙ ap (λ es. trail_at old.door.centres i ++ es) (h.takes.grows.door.alone refl i);
    histories = h.turn_is.histories;
    stubs = ap (λ (stubs : List StubView). length stubs) h.stubs ∙ length-set old.stubs.items (client + 1 - 2) h.later;
  }

  place : client + 1 - 2 ≡ client - 1
  place = omega arith

  there : slice_get old.stubs.items (client - 1) ≡ Some h.stub
  there = subst (λ k. slice_get old.stubs.items k ≡ Some h.stub) place h.there

  there_then : slice_get new.stubs.items (client - 1) ≡ Some h.later
  there_then =
      ap (λ stubs. slice_get stubs (client - 1)) (h.stubs ∙ ap (λ k. slice_set old.stubs.items k h.later) place)
      ∙ set_here old.stubs.items (client - 1) h.later (slice_get_within old.stubs.items (client - 1) h.stub there)

  -- the client is as far as its step says
  comes : (between_of script new).come client ≡ stepped ((between_of script old).come client) step (notes_of_deeds number done)
  comes =
      let by_note : Client → Note → Client = λ s note. after s note.deed in
      let state : fold by_note h.stub.client (notes_of_deeds number done) ≡ h.later.client = fold-map by_note (marked number 1) h.stub.client done ∙ sym h.takes.grows.client in
      let armed : armed_after h.stub.armed step (map (λ (note : Note). note.deed) (notes_of_deeds number done)) ≡ h.later.armed = ap (armed_after h.stub.armed step) (deeds_marked number 1 done) ∙ sym h.takes.armed in
      let log : notes_at old (client + 1) ++ notes_of_deeds number done ≡ notes_at new (client + 1) = sym (alone_notes script number (client + 1) done old new is acts alone (client + 1) ∙ ap (λ ns. notes_at old (client + 1) ++ ns) (left_own script number (client + 1) done old new is acts alone)) in
      let then_is : stepped (come_of (notes_at old (client + 1)) h.stub) step (notes_of_deeds number done) ≡ come_of (notes_at new (client + 1)) h.later = λ k. record { client = state k; armed = armed k; notes = log k } in
      come_at script new client h.later there_then
      ∙ sym (ap (λ p. stepped p step (notes_of_deeds number done)) (come_at script old client h.stub there) ∙ then_is)

  goes : InOrder ClientGoes number 1 ((between_of script old).come client) (client_steps client (section_of (ByClient client step))) (theirs.notes (client + 1)) ((between_of script new).come client)
  goes =
      let such : StepDeeds ((between_of script old).come client) step (deeds_of (notes_of_deeds number done)) = subst (λ p. StepDeeds p step (deeds_of (notes_of_deeds number done))) (sym (come_at script old client h.stub there)) (subst (StepDeeds (come_of (notes_at old (client + 1)) h.stub) step) (sym (deeds_marked number 1 done)) h.takes.such) in
      order_one ClientGoes number ((between_of script old).come client) ((between_of script new).come client) (client_steps client (section_of (ByClient client step))) step (theirs.notes (client + 1)) (notes_of_deeds number done)
      (ap (λ test. cons_option (when test step) []) (eq-eqb client client refl))
      (left_own script number (client + 1) done old new is acts alone)
      (all_at number 1 done) (such, comes)

  -- each other client stays
  stays : (other : ℕ) → IsCount script.clients other → other ≢ client → InOrder ClientGoes number 1 ((between_of script old).come other) (client_steps other (section_of (ByClient client step))) (theirs.notes (other + 1)) ((between_of script new).come other)
  stays other high differs =
      let none : theirs.notes (other + 1) ≡ [] = left_none script number (client + 1) done old new is acts alone (other + 1) (λ same. differs (omega (arith, same))) in
      let stubs : slice_get new.stubs.items (other - 1) ≡ slice_get old.stubs.items (other - 1) = ap (λ stubs. slice_get stubs (other - 1)) h.stubs ∙ set_else old.stubs.items (client + 1 - 2) (other - 1) h.later (λ same. differs (omega (arith, same, high.0, range.0))) in
      let notes : notes_at new (other + 1) ≡ notes_at old (other + 1) = alone_notes script number (client + 1) done old new is acts alone (other + 1) ∙ (ap (λ ns. notes_at old (other + 1) ++ ns) none ∙ append-nil (notes_at old (other + 1))) in
      order_none ClientGoes number ((between_of script old).come other) ((between_of script new).come other) (client_steps other (section_of (ByClient client step))) (theirs.notes (other + 1))
      (ap (λ test. cons_option (when test step) []) (ne_eqb client other (λ same. differs (sym same))))
      none (come_same script old new other stubs notes)

  -- it looks at what the taps show, where it does so
  looked : LooksSo (taps_of old.taps.items) client step (deeds_of (theirs.notes (client + 1)))
  looked =
      let mine : h.stub.client.client ≡ client = sym (ap (λ (p : Progress). p.client.client) (come_at script old client h.stub there)) ∙ numbered client range in
      subst (λ notes. LooksSo (taps_of old.taps.items) client step (deeds_of notes)) (sym (left_own script number (client + 1) done old new is acts alone))
      (subst (LooksSo (taps_of old.taps.items) client step) (sym (deeds_marked number 1 done))
      (subst (λ c. LooksSo (taps_of old.taps.items) c step done) mine h.looks))

  -- the taps stay
  leaves_taps : PlaysTaps script number (section_of (ByClient client step)) (between_of script old) theirs (between_of script new)
  leaves_taps = look_taps script number (between_of script old) theirs (between_of script new) client step
      (left_none script number (client + 1) done old new is acts alone 1 (λ same. omega (arith, same, range.0)))
      (λ other high differs. left_none script number (client + 1) done old new is acts alone (other + 1) (λ same. differs (omega (arith, same))))
      (subst (All (IsAt number 1)) (sym (left_own script number (client + 1) done old new is acts alone)) (all_at number 1 done))
      looked (λ i among. ap (λ taps. taps_of taps i) h.taps)

  allowed_own : ClientDoes ((between_of script old).come client).client (notes_at old (client + 1)) (theirs.notes (client + 1))
  allowed_own =
      subst (λ (p : Progress). ClientDoes p.client (notes_at old (client + 1)) (theirs.notes (client + 1))) (sym (come_at script old client h.stub there))
      (subst (ClientDoes h.stub.client (notes_at old (client + 1))) (sym (left_own script number (client + 1) done old new is acts alone))
      (allows_does number 1 h.stub.client (log_in (turn_in number (client + 1)) (log_at old.logs.items (client + 1))) done refl refl h.takes.grows.allowed))

  -- a client's step was played
  pub client_line : HasPlayed script number (section_of (ByClient client step)) old new
  client_line = line_played script number (client + 1) done old new is acts alone (ByClient client step) (omega (arith, range.1))
      (λ other high. ⊎_elim
      (λ same. subst (λ c. InOrder ClientGoes number 1 ((between_of script old).come c) (client_steps c (section_of (ByClient client step))) (theirs.notes (c + 1)) ((between_of script new).come c)) (sym same) goes)
      (λ differs. stays other high differs)
      (cases_eq other client))
      (order_none (OperatorGoes script.n) number tt tt [] (theirs.notes 1) refl (left_none script number (client + 1) done old new is acts alone 1 (λ same. omega (arith, same, range.0))) refl)
      (λ from to f t. ap (λ posts. (post_at posts from to).inlet) h.posts)
      leaves_taps
      (λ other high. ⊎_elim
      (λ same. subst (λ c. ClientDoes ((between_of script old).come c).client (notes_at old (c + 1)) (theirs.notes (c + 1))) (sym same) allowed_own)
      (λ differs. subst (ClientDoes ((between_of script old).come other).client (notes_at old (other + 1))) (sym (left_none script number (client + 1) done old new is acts alone (other + 1) (λ same. differs (omega (arith, same))))) tt)
      (cases_eq other client))

-- ---- the operator's step

-- what a step of the operator makes of the end of a link
order_inlet : (step : OperatorStep) (deeds : List Deed) (from to : ℕ) (post : Post) → (post_after (operator_does step) deeds from to post).inlet ≡ linked (step ∷ []) from to post.inlet
order_inlet (Link i j fault) deeds from to post = either (from == i && to == j)
  where
    either : (test : Bool) → (cond test (post_set fault post) post).inlet ≡ cond test (inlet_set fault post.inlet) post.inlet
    either true = refl
    either false = refl
order_inlet step deeds from to post = refl

module _ (script : Script) (number : ℕ) (step : OperatorStep) (old new : Table) (is : IsTableOf script old) (h : HasOperated (turn_in number 1) step old new) where
  -- the deeds
  abbrev ordered : List Deed
  ordered = h.operates.deeds

  -- what the operator leaves
  abbrev its : Left
  its = left_alone number 1 ordered

  it_acts : IsCount (actors_of script) 1
  it_acts = (omega arith, omega arith)

  it_alone : HasDoneAlone number 1 ordered old new
  it_alone = record {
    logs = h.turn_is.logs ∙ ap (slice_set old.logs.items (1 - 1)) h.operates.leaves.log;
    settings = h.turn_is.settings;
    trails = λ i. h.operates.leaves.door.seen i ∙ ap (λ es. trail_at old.door.centres i ++ es) (h.operates.leaves.door.alone refl i);
    histories = h.turn_is.histories;
    stubs = ap (λ stubs. length stubs.items) h.stubs;
  }

  client_none : (client : ℕ) → IsCount script.clients client → its.notes (client + 1) ≡ []
  client_none client range = left_none script number 1 ordered old new is it_acts it_alone (client + 1) (λ same. omega (arith, same, range.0))

  -- each client stays
  client_stays : (client : ℕ) → IsCount script.clients client → InOrder ClientGoes number 1 ((between_of script old).come client) (client_steps client (section_of (ByOperator step))) (its.notes (client + 1)) ((between_of script new).come client)
  client_stays client range =
      let none : its.notes (client + 1) ≡ [] = client_none client range in
      let notes : notes_at new (client + 1) ≡ notes_at old (client + 1) = alone_notes script number 1 ordered old new is it_acts it_alone (client + 1) ∙ (ap (λ ns. notes_at old (client + 1) ++ ns) none ∙ append-nil (notes_at old (client + 1))) in
      order_none ClientGoes number ((between_of script old).come client) ((between_of script new).come client) (client_steps client (section_of (ByOperator step))) (its.notes (client + 1)) refl none
      (come_same script old new client (ap (λ stubs. slice_get stubs.items (client - 1)) h.stubs) notes)

  -- the deeds that it leaves
  its_deeds : deeds_of (its.notes 1) ≡ ordered
  its_deeds = ap deeds_of (left_own script number 1 ordered old new is it_acts it_alone) ∙ deeds_marked number 1 ordered

  -- the taps show what it fed
  feeds_taps : PlaysTaps script number (section_of (ByOperator step)) (between_of script old) its (between_of script new)
  feeds_taps = feed_taps script number (between_of script old) its (between_of script new) step client_none
      (subst (All (IsAt number 1)) (sym (left_own script number 1 ordered old new is it_acts it_alone)) (all_at number 1 ordered))
      (subst (FeedsSo (taps_of old.taps.items) step) (sym its_deeds) h.feeds)
      (λ i range. h.taps i ∙ ap (λ deeds. taps_then step deeds (taps_of old.taps.items) i) (sym its_deeds))

  -- its step was played
  pub order_line : HasPlayed script number (section_of (ByOperator step)) old new
  order_line =
      let count : length old.door.centres ≡ script.n = centres_many script old is in
      let such : OperatorDeeds script.n step (deeds_of (notes_of_deeds number ordered)) = subst (λ n. OperatorDeeds n step (deeds_of (notes_of_deeds number ordered))) count (subst (OperatorDeeds (length old.door.centres) step) (sym (deeds_marked number 1 ordered)) h.operates.such) in
      line_played script number 1 ordered old new is it_acts it_alone (ByOperator step) (omega arith) client_stays
      (order_one (OperatorGoes script.n) number tt tt (step ∷ []) step (its.notes 1) (notes_of_deeds number ordered) refl (left_own script number 1 ordered old new is it_acts it_alone) (all_at number 1 ordered) such)
      (λ from to f t. ap (λ (post : Post). post.inlet) (h.posts from to (f.0, omega (arith, f.1, count)) (t.0, omega (arith, t.1, count))) ∙ order_inlet step ordered from to (post_at old.posts from to))
      feeds_taps
      (λ client range. subst (ClientDoes ((between_of script old).come client).client (notes_at old (client + 1))) (sym (client_none client range)) tt)

-- ---- whichever it was

-- what a client's step leaves where it ends well: it was played as a section
pub client_taken : {T E : Type 0} (r : Result T E) (script : Script) (number client : ℕ) (own : ClientStep) (step : Step) (old new : Table) → step ≡ ByClient client own → IsStepOf (header_of script) step → IsTableOf script old → AreNumbered script old → OnOk r (HasStepped (turn_in number (client + 1)) own old new) → OnOk r (HasPlayed script number (section_of step) old new)
client_taken r script number client own step old new is fits table numbered =
    let parts : IsCount script.clients client × IsStep script.n own × IsOwn script.clients client own = subst (IsStepOf (header_of script)) is fits in
    on_turn r (HasStepped (turn_in number (client + 1)) own old new) (HasPlayed script number (section_of step) old new)
    (λ took. subst (λ it. HasPlayed script number (section_of it) old new) (sym is) (client_line script number client own old new table numbered parts.0 took))

-- so with the operator's
pub order_taken : {T E : Type 0} (r : Result T E) (script : Script) (number : ℕ) (own : OperatorStep) (step : Step) (old new : Table) → step ≡ ByOperator own → IsTableOf script old → OnOk r (HasOperated (turn_in number 1) own old new) → OnOk r (HasPlayed script number (section_of step) old new)
order_taken r script number own step old new is table =
    on_turn r (HasOperated (turn_in number 1) own old new) (HasPlayed script number (section_of step) old new)
    (λ ordered. subst (λ it. HasPlayed script number (section_of it) old new) (sym is) (order_line script number own old new table ordered))
