-- The notes of a run tell the values that its clients read, and are of sections that are counted from 1.
use Rattle.std.proofs.Common.{◌≡◌, ◌≢◌, ◌≤◌, ◌<◌, ℕ, zero, suc, ◌+◌, ◌-◌, ◌*◌, ⊎_elim, inl, inr, Bool, true, false, cond, List, [], ◌∷◌, ◌++◌, length, map, Option, Some, None, refl, sym, ap, ◌∙◌, subst, arith}
use Rattle.std.specs.Prelude.{◌==◌, All, max, nat_le, flat_map, slice_get}
use Rattle.std.specs.List.{filter_map, range_with_len}
use Rattle.std.specs.Option.{option_map}
use Rattle.std.proofs.lemmas.Bool.{cases_eq, cases_lt}
use Rattle.std.proofs.lemmas.List.{append_assoc, append-nil}
use Rattle.std.proofs.lemmas.List.Elements.{filter_map-append}
use Rattle.std.proofs.lemmas.Option.{none-some, same_Some}
use Rattle.list_core.specs.Members.{In}
use Rattle.list_core.proofs.Members.{All-In, In_either, In_from_flat_map, In_from_map}
use Rattle.list_core.proofs.Passing.{In_from_filter_map}
use Rattle.list_core.proofs.Gets.{past_end}
use Rattle.vv_core.specs.Vectors.{centres}
use Rattle.dc_talk.specs.declared.log.Deed.{Deed}
use Rattle.dc_talk.specs.declared.log.Note.{Note}
use Rattle.dc_talk.specs.Logs.{Logged}
use Rattle.script_core.specs.declared.script.Script.{Script}
use Rattle.script_core.specs.declared.steps.OperatorStep.{OperatorStep}
use Rattle.script_core.specs.declared.steps.Section.{Section}
use Rattle.script_core.specs.declared.steps.Step.{Step}
use Rattle.script_core.specs.declared.steps.Step.TheVariants.{Client, Operator}
use Rattle.script_core.specs.declared.rounds.Role.{Role}
use Rattle.script_core.specs.declared.rounds.Role.TheVariants.{Sender, Receiver, Reporter, Pruner}
use Rattle.script_core.specs.Deeds.{Progress}
use Rattle.script_core.specs.Mail.{due_at_close, due_in_round}
use Rattle.script_core.specs.Rounds.{worker_of}
use Rattle.script_core.specs.Steps.{IsCount}
use Rattle.run_book.specs.declared.book.Book.{Book}
use Rattle.run_book.specs.Parts.{idle_log, notes_of}
use Rattle.run_book.specs.Happenings.{Happened, note_by, notes_by, happening}
use Rattle.run_book.specs.Moves.{Does, client_does, operator_does, worker_does, closes, Move, move, actor_of, client_steps, client_turn, operator_steps, operator_turn, one_or_none, step_move, worker_turn, turn_moves, phase_moves, section_moves, moves_from, most_steps, moves_of}
use Rattle.run_book.specs.Played.{Stage, DoesSo, first_stage, stage_after, IsAt, Plays, no_moves, next_move}
use Rattle.run_book.specs.Scripted.{HasSteps}
use Rattle.run_book.proofs.Happenings.Entries.{own_then, other_then}
use Rattle.run_sections.specs.Orders.{deeds_of, InOrder, none_left, one_first, ClientGoes, OperatorGoes, SenderGoes, ReporterGoes, PrunerGoes, arrived_of, ReceiverGoes}
use Rattle.run_sections.specs.Sections.{actors_of, Between, first_between, Left, PlaysSection, receipts_in, rounds_in}
use Rattle.run_sections.specs.Runs.{PlaysSections, no_sections, next_section, IsSectionRunOf}
use Rattle.run_sections.proofs.Actors.{by_actor}
use Rattle.run_steps.specs.Logs.{InSteps, no_steps, next_step}
use Rattle.run_steps.proofs.Who.{behind_who, come_who}
use Rattle.run_laws.specs.ReadLines.{TellsPart}
use Rattle.run_laws.proofs.ClientLines.{step_told}
use Rattle.run_laws.proofs.CarrierLines.{order_told, sender_told, receiver_told, reporter_told, pruner_told}

-- ---- the notes of an actor

-- they are those of parts that tell its reads, or read cells alone, and their sections are counted from 1
pub record IsTale (actor : ℕ) (notes : List Note) : Type 0 where
  pub told : InSteps (TellsPart (actor - 1)) notes
  pub low : (note : Note) → In note notes → 1 ≤ note.section

-- where there are none
none_tale : (actor : ℕ) → IsTale actor []
none_tale actor = record { told = no_steps; low = λ note there. absurd there }

-- those of steps, one after another, and of others behind them
steps_behind : (Step : List Deed → Type 0) (first later : List Note) → InSteps Step first → InSteps Step later → InSteps Step (first ++ later)
steps_behind Step _ later no_steps rest = rest
steps_behind Step first later (next_step mine more whole such steps) rest = next_step mine (more ++ later) (ap (λ l. l ++ later) whole ∙ append_assoc mine more later) such (steps_behind Step more later steps rest)

-- some, and others behind them
both_tale : (actor : ℕ) (first later : List Note) → IsTale actor first → IsTale actor later → IsTale actor (first ++ later)
both_tale actor first later one two = record {
  told = steps_behind (TellsPart (actor - 1)) first later one.told two.told;
  low = λ note there. ⊎_elim (λ front. one.low note front) (λ back. two.low note back) (In_either first later note there);
}

-- what was noted in a step or a round of a section
step_tale : (actor c section step : ℕ) (notes : List Note) → actor - 1 ≡ c → 1 ≤ section → All (IsAt section step) notes → TellsPart c (deeds_of notes) → IsTale actor notes
step_tale actor c section step notes same low at told = record {
  told = next_step notes [] (sym (append-nil notes)) (subst (λ c. TellsPart c (deeds_of notes)) (sym same) told) no_steps;
  low = λ note there. let here : note.section ≡ section = (All-In (IsAt section step) notes note at there).section_is in omega (arith, here, low);
}

-- ---- moves one after another

-- each client of a stage is the one of its number
abbrev HasClients : Stage → Type 0
HasClients stage = (client : ℕ) → (stage.come client).client.client ≡ client

-- what is done by a move tells
does_told : (n clients number : ℕ) (stage : Stage) (does : Does) (deeds : List Deed) → HasClients stage → DoesSo n stage number does deeds → TellsPart (actor_of clients does - 1) deeds
does_told n clients number stage (client_does client step) deeds has is = let same : client ≡ client + 1 - 1 = omega arith in subst (λ c. TellsPart c deeds) (has client ∙ same) (step_told (stage.come client) step deeds is)
does_told n clients number stage (operator_does step) deeds has is = inl (order_told 0 n step deeds is)
does_told n clients number stage (worker_does i Sender) deeds has is = inl (sender_told (worker_of clients i Sender - 1) n i deeds is)
does_told n clients number stage (worker_does i Receiver) deeds has is = inl (receiver_told (worker_of clients i Receiver - 1) n i (λ from. due_in_round (stage.posts from i)) deeds is)
does_told n clients number stage (worker_does i Reporter) deeds has is = inl (reporter_told (worker_of clients i Reporter - 1) n i deeds is)
does_told n clients number stage (worker_does i Pruner) deeds has is = inl (pruner_told (worker_of clients i Pruner - 1) i number deeds is)
does_told n clients number stage (closes i) deeds has is = inl (receiver_told (worker_of clients i Receiver - 1) n i (λ from. due_at_close (stage.posts from i)) deeds is)

-- all that happened by moves of sections that are counted from 1
plays_tale : (n clients : ℕ) (stage : Stage) (moves : List Move) (all : List Happened) → HasClients stage → ((one : Move) → In one moves → 1 ≤ one.section) → Plays n clients stage moves all → (a : ℕ) → IsTale a (notes_by a all)
plays_tale n clients stage [] all has low no_moves a = none_tale a
plays_tale n clients stage (one ∷ moves) all has low (next_move mine later whole at does taps rest) a =
    let actor = actor_of clients one.does in
    let own : IsTale actor mine = step_tale actor (actor - 1) one.section one.step mine refl (low one (inl refl)) at (does_told n clients one.step stage one.does (deeds_of mine) has does) in
    let here : IsTale a (notes_by a (happening actor mine)) = ⊎_elim
    (λ (same : a ≡ actor). subst (λ b. IsTale b (notes_by b (happening actor mine))) (sym same) (subst (IsTale actor) (sym (own_then actor [] mine)) own))
    (λ (differs : a ≢ actor). subst (IsTale a) (sym (other_then actor a [] mine (λ same. differs (sym same)))) (none_tale a))
    (cases_eq a actor) in
    let behind = plays_tale n clients (stage_after one.does mine stage) moves later (come_who one.does mine stage.come has) (λ other there. low other (inr there)) rest a in
    subst (λ all. IsTale a (notes_by a all)) (sym whole) (subst (IsTale a) (sym (filter_map-append (note_by a) (happening actor mine) later)) (both_tale a (notes_by a (happening actor mine)) (notes_by a later) here behind))

-- ---- the sections of moves

-- a move that is made of something
chosen_section : {X : Type 0} (number t : ℕ) (f : X → Does) (o : Option X) (one : Move) → option_map (λ x. move number t (f x)) o ≡ Some one → one.section ≡ number
chosen_section number t f None one is = absurd (none-some one is)
chosen_section number t f (Some x) one is = ap (λ (one : Move). one.section) (sym (same_Some (move number t (f x)) one is))

-- the operator's
operator_section : (number t : ℕ) (o : Option OperatorStep) (one : Move) → In one (one_or_none (option_map (λ step. move number t (operator_does step)) o)) → one.section ≡ number
operator_section number t None one there = absurd there
operator_section number t (Some step) one (inl same) = ap (λ (one : Move). one.section) same
operator_section number t (Some step) one (inr none) = absurd none

-- those of the workers of a centre
worker_section : (number rounds t i : ℕ) (one : Move) → In one (worker_turn number rounds t i) → one.section ≡ number
worker_section number rounds t i one there = go (nat_le t rounds) (t == rounds + 1) there
  where
    go : (round last : Bool) → In one (cond round (map (λ role. move number t (worker_does i role)) (Sender ∷ Receiver ∷ Reporter ∷ Pruner ∷ [])) (cond last (move number t (closes i) ∷ []) [])) → one.section ≡ number
    go true last there = let from = In_from_map (λ role. move number t (worker_does i role)) (Sender ∷ Receiver ∷ Reporter ∷ Pruner ∷ []) one there in ap (λ (one : Move). one.section) from.2
    go false true (inl same) = ap (λ (one : Move). one.section) same
    go false true (inr none) = absurd none
    go false false there = absurd there

module _ (script : Script) (number : ℕ) (section : Section) where
  -- those of a turn
  turn_section : (t : ℕ) (one : Move) → In one (turn_moves script number section t) → one.section ≡ number
  turn_section t one there =
      let clients = filter_map (client_turn number section t) (range_with_len 1 script.clients) in
      let operator = one_or_none (operator_turn number section t) in
      let workers = flat_map (worker_turn number script.rounds t) (centres script.n) in
      ⊎_elim
      (λ front. ⊎_elim
      (λ mine. let from = In_from_filter_map (client_turn number section t) (range_with_len 1 script.clients) one mine in chosen_section number t (client_does from.0) (slice_get (client_steps from.0 section) (t - 1)) one from.2)
      (λ own. operator_section number t (slice_get (operator_steps section) (t - 1)) one own)
      (In_either clients operator one front))
      (λ back. let from = In_from_flat_map (worker_turn number script.rounds t) (centres script.n) one back in worker_section number script.rounds t from.0 one from.2)
      (In_either (clients ++ operator) workers one there)

  -- that of a step
  step_section : (step : Step) (one : Move) → one ≡ step_move number step → one.section ≡ number
  step_section (Client client step) one same = ap (λ (one : Move). one.section) same
  step_section (Operator step) one same = ap (λ (one : Move). one.section) same

  -- those of a section
  moves_section : (one : Move) → In one (section_moves script number section) → one.section ≡ number
  moves_section one there = go section.phase there
    where
      go : (phase : Bool) → In one (cond phase (phase_moves script number section) (map (step_move number) section.steps)) → one.section ≡ number
      go true there = let from = In_from_flat_map (turn_moves script number section) (range_with_len 1 (max (most_steps script.clients section) (script.rounds + 1))) one there in turn_section from.0 one from.2
      go false there = let from = In_from_map (step_move number) section.steps one there in step_section from.0 one from.2

-- those of a script
moves_low : (script : Script) (number : ℕ) (sections : List Section) → 1 ≤ number → (one : Move) → In one (moves_from script number sections) → 1 ≤ one.section
moves_low script number [] low one there = absurd there
moves_low script number (section ∷ rest) low one there = ⊎_elim
    (λ here. let same : one.section ≡ number = moves_section script number section one here in omega (arith, same, low))
    (λ behind. moves_low script (number + 1) rest (omega (arith, low)) one behind)
    (In_either (section_moves script number section) (moves_from script (number + 1) rest) one there)

-- the notes of a book that has the steps of a script
pub steps_tale : (script : Script) (b : Book) → HasSteps script b → (a : ℕ) → IsTale a (notes_of b a)
steps_tale script b steps a = subst (IsTale a) (sym (steps.notes a)) (plays_tale script.n script.clients (first_stage script) (moves_of script) steps.all (λ client. refl) (moves_low script 1 script.sections (omega arith)) steps.plays a)

-- ---- sections one after another

-- what an actor did in order in a section
order_tale : {S M : Type 0} (Does : S → ℕ → M → List Note → S → Type 0) (actor c section : ℕ) (Keeps : S → Type 0) → ((s next : S) (step : ℕ) (m : M) (mine : List Note) → Keeps s → Does s step m mine next → TellsPart c (deeds_of mine) × Keeps next)
    → actor - 1 ≡ c → 1 ≤ section → (step : ℕ) (s last : S) (ms : List M) (notes : List Note) → Keeps s → InOrder Does section step s ms notes last → IsTale actor notes × Keeps last
order_tale Does actor c section Keeps each same low step s last [] notes keeps none_left = (none_tale actor, keeps)
order_tale Does actor c section Keeps each same low step s last (m ∷ ms) notes keeps (one_first next mine later whole at does rest) =
    let here = each s next step m mine keeps does in
    let behind = order_tale Does actor c section Keeps each same low (step + 1) next last ms later here.1 rest in
    (subst (IsTale actor) (sym whole) (both_tale actor mine later (step_tale actor c section step mine same low at here.0) behind.0), behind.1)

-- each client between two sections is the one of its number
abbrev AreClients : Script → Between → Type 0
AreClients script between = (client : ℕ) → IsCount script.clients client → (between.come client).client.client ≡ client

-- the client of a progress
abbrev IsOf : ℕ → Progress → Type 0
IsOf client p = p.client.client ≡ client

module _ (script : Script) (number : ℕ) (section : Section) (old : Between) (left : Left) (new : Between) (plays : PlaysSection script number section old left new) (low : 1 ≤ number) (clients : AreClients script old) where
  -- what a client did, and that it stays the same one
  client_tale : (client : ℕ) → IsCount script.clients client → IsTale (client + 1) (left.notes (client + 1)) × IsOf client (new.come client)
  client_tale client range = order_tale ClientGoes (client + 1) client number (IsOf client)
      (λ p next step m mine is does. (subst (λ c. TellsPart c (deeds_of mine)) is (step_told p m (deeds_of mine) does.0), ap (λ (p : Progress). p.client.client) does.1 ∙ (behind_who p.client mine ∙ is)))
      (omega arith) low 1 (old.come client) (new.come client) (client_steps client section) (left.notes (client + 1)) (clients client range) (plays.clients client range)

  -- what a worker did
  worker_tale : (i : ℕ) (role : Role) → IsCount script.n i → IsTale (worker_of script.clients i role) (left.notes (worker_of script.clients i role))
  worker_tale i Sender centre = (order_tale (SenderGoes script.n i) (worker_of script.clients i Sender) (worker_of script.clients i Sender - 1) number (λ s. Unit {0})
      (λ s next step m mine none does. (inl (sender_told (worker_of script.clients i Sender - 1) script.n i (deeds_of mine) does), tt))
      refl low 1 tt tt (rounds_in script section) (left.notes (worker_of script.clients i Sender)) tt (plays.senders i centre)).0
  worker_tale i Receiver centre = let r = plays.receivers i centre in (order_tale (ReceiverGoes script.n i) (worker_of script.clients i Receiver) (worker_of script.clients i Receiver - 1) number (λ s. Unit {0})
      (λ s next step m mine none does. (inl (receiver_told (worker_of script.clients i Receiver - 1) script.n i (λ from. arrived_of m (s from).inlet (does.items from)) (deeds_of mine) does.delivers), tt))
      refl low 1 r.first r.last (receipts_in script section) (left.notes (worker_of script.clients i Receiver)) tt r.order).0
  worker_tale i Reporter centre = (order_tale (ReporterGoes script.n i) (worker_of script.clients i Reporter) (worker_of script.clients i Reporter - 1) number (λ s. Unit {0})
      (λ s next step m mine none does. (inl (reporter_told (worker_of script.clients i Reporter - 1) script.n i (deeds_of mine) does), tt))
      refl low 1 tt tt (rounds_in script section) (left.notes (worker_of script.clients i Reporter)) tt (plays.reporters i centre)).0
  worker_tale i Pruner centre = (order_tale (PrunerGoes i) (worker_of script.clients i Pruner) (worker_of script.clients i Pruner - 1) number (λ s. Unit {0})
      (λ s next step m mine none does. (inl (pruner_told (worker_of script.clients i Pruner - 1) i m (deeds_of mine) does), tt))
      refl low 1 tt tt (rounds_in script section) (left.notes (worker_of script.clients i Pruner)) tt (plays.pruners i centre)).0

  -- what each actor did
  section_tale : (a : ℕ) → IsCount (actors_of script) a → IsTale a (left.notes a)
  section_tale = by_actor script (λ a. IsTale a (left.notes a))
      (order_tale (OperatorGoes script.n) 1 0 number (λ s. Unit {0}) (λ s next step m mine none does. (inl (order_told 0 script.n m (deeds_of mine) does), tt)) refl low 1 tt tt (operator_steps section) (left.notes 1) tt plays.operator).0
      (λ client range. (client_tale client range).0)
      worker_tale

-- what each actor did in all of them
sections_tale : (script : Script) (number : ℕ) (here last : Between) (sections : List Section) (lefts : List Left) → 1 ≤ number → AreClients script here → PlaysSections script number here sections lefts last → (a : ℕ) → IsCount (actors_of script) a → IsTale a (flat_map (λ (left : Left). left.notes a) lefts)
sections_tale script number here last [] lefts low clients no_sections a range = none_tale a
sections_tale script number here last (section ∷ rest) lefts low clients (next_section {left = left} {lefts = more} new plays later) a range =
    both_tale a (left.notes a) (flat_map (λ (left : Left). left.notes a) more)
    (section_tale script number section here left new plays low clients a range)
    (sections_tale script (number + 1) new last rest more (omega (arith, low)) (λ client there. (client_tale script number section here left new plays low clients client there).1) later a range)

-- the notes of a book of a run section by section
pub sections_run_tale : (script : Script) (b : Book) → IsSectionRunOf script b → (a : ℕ) → IsTale a (notes_of b a)
sections_run_tale script b run zero = none_tale 0
sections_run_tale script b run (suc a) = ⊎_elim
    (λ (inside : a < actors_of script).
    let range : IsCount (actors_of script) (suc a) = (omega arith, omega (arith, inside)) in
    subst (IsTale (suc a)) (sym (run.steps.notes (suc a) range)) (sections_tale script 1 (first_between script) run.steps.last script.sections run.steps.lefts (omega arith) (λ client there. refl) run.steps.plays (suc a) range))
    (λ (past : actors_of script ≤ a).
    let count : length b.logs ≡ actors_of script = run.fits.form.logs ∙ ap (λ n. 1 + script.clients + 4 * n) run.n in
    subst (IsTale (suc a)) (sym (ap (λ (log : Logged). log.notes) (past_end b.logs a (idle_log 0) (omega (arith, past, count))))) (none_tale (suc a)))
    (cases_lt a (actors_of script))
