-- In a book with the steps of a script the log of a client is that of its steps, one after another.
use Rattle.std.proofs.Common.{◌≡◌, ◌≢◌, ℕ, ◌+◌, ◌-◌, ◌≤◌, inl, inr, ⊎_elim, List, [], ◌++◌, refl, sym, ap, ◌∙◌, subst, arith}
use Rattle.std.specs.Prelude.{flat_map}
use Rattle.std.proofs.lemmas.Bool.{cases_lt}
use Rattle.std.proofs.lemmas.List.{append_assoc}
use Rattle.std.proofs.lemmas.List.Elements.{filter_map-append}
use Rattle.list_core.specs.Members.{In}
use Rattle.list_core.proofs.Members.{In_left, In_right}
use Rattle.dc_talk.specs.declared.log.Note.{Note}
use Rattle.script_core.specs.declared.script.Script.{Script}
use Rattle.script_core.specs.declared.steps.ClientStep.{ClientStep}
use Rattle.script_core.specs.declared.steps.Section.{Section}
use Rattle.script_core.specs.declared.steps.Step.{Step}
use Rattle.script_core.specs.declared.steps.Step.TheVariants.{Client}
use Rattle.script_core.specs.declared.rounds.Role.{Role}
use Rattle.script_core.specs.declared.rounds.Role.TheVariants.{Sender, Receiver, Reporter, Pruner}
use Rattle.script_core.specs.Steps.{IsCount}
use Rattle.script_core.specs.Deeds.{Progress}
use Rattle.script_core.specs.Rounds.{worker_of, role_number}
use Rattle.run_book.specs.declared.book.Book.{Book}
use Rattle.run_book.specs.Setups.{setup_of}
use Rattle.run_book.specs.Parts.{notes_of, IsClient}
use Rattle.run_book.specs.Happenings.{Happened, note_by, notes_by, happening}
use Rattle.run_book.specs.Moves.{Does, client_does, operator_does, worker_does, closes, Move, actor_of, client_steps, moves_of}
use Rattle.run_book.specs.Played.{Stage, first_stage, DoesSo, Plays, no_moves, next_move}
use Rattle.run_book.specs.Scripted.{HasSteps}
use Rattle.run_book.proofs.Happenings.Entries.{own_then, other_then}
use Rattle.run_sections.specs.Orders.{deeds_of, InOrder, none_left, one_first, ClientGoes}
use Rattle.run_sections.specs.Sections.{Between, first_between, Left}
use Rattle.run_sections.specs.Runs.{PlaysSections, no_sections, next_section, HasSectionSteps}
use Rattle.run_steps.specs.Logs.{steps_in, all_steps, InSteps, no_steps, next_step, AreStepDeeds}
use Rattle.run_steps.proofs.Who.{behind_who, come_who}
use Rattle.run_steps.proofs.TheirSteps.{IsTheirs, in_section, moves_theirs}

-- the number of a role is 1 or more
role_low : (role : Role) → 1 ≤ role_number role
role_low Sender = omega arith
role_low Receiver = omega arith
role_low Reporter = omega arith
role_low Pruner = omega arith

-- ---- on one thread

module _ (script : Script) (a : ℕ) (low : 2 ≤ a) (high : a ≤ script.clients + 1) where
  abbrev clients : ℕ
  clients = script.clients

  -- the notes are those of its steps
  abbrev IsChain : List Note → Type 0
  IsChain notes = InSteps (AreStepDeeds script (a - 1)) notes

  -- what another actor does adds nothing to the log
  elsewhere : (actor : ℕ) (mine : List Note) (later : List Happened) → actor ≢ a → IsChain (notes_by a later) → IsChain (notes_by a (happening actor mine) ++ notes_by a later)
  elsewhere actor mine later other rest = subst (λ l. IsChain (l ++ notes_by a later)) (sym (other_then actor a [] mine other)) rest

  -- one move
  moved : (stage : Stage) (step : ℕ) (does : Does) (mine : List Note) (later : List Happened) → ((client : ℕ) → (stage.come client).client.client ≡ client) → IsTheirs script does → DoesSo script.n stage step does (deeds_of mine) → IsChain (notes_by a later) → IsChain (notes_by a (happening (actor_of clients does) mine) ++ notes_by a later)
  moved stage step (client_does client does) mine later who theirs so rest =
      ⊎_elim
      (λ lt. elsewhere (client + 1) mine later (λ same. omega (arith, same, lt)) rest)
      (λ ge. ⊎_elim
      (λ gt. elsewhere (client + 1) mine later (λ same. omega (arith, same, gt)) rest)
      (λ le.
      let same : client + 1 ≡ a = omega (arith, ge, le) in
      let number : client ≡ a - 1 = omega (arith, same) in
      let own : notes_by a (happening (client + 1) mine) ≡ mine = subst (λ a. notes_by a (happening (client + 1) mine) ≡ mine) same (own_then (client + 1) [] mine) in
      next_step mine (notes_by a later) (ap (λ l. l ++ notes_by a later) own)
      (record { come = stage.come client; who = who client ∙ number; does = does; theirs = subst (λ c. In (Client c does) (all_steps script)) number theirs; such = so }) rest)
      (cases_lt a (client + 1)))
      (cases_lt (client + 1) a)
  moved stage step (operator_does does) mine later who theirs so rest = elsewhere 1 mine later (λ same. omega (arith, same, low)) rest
  moved stage step (worker_does i role) mine later who theirs so rest = elsewhere (worker_of clients i role) mine later (λ same. omega (arith, same, high, role_low role)) rest
  moved stage step (closes i) mine later who theirs so rest = elsewhere (worker_of clients i Receiver) mine later (λ same. omega (arith, same, high, role_low Receiver)) rest

  -- all moves
  chained : (stage : Stage) (moves : List Move) (all : List Happened) → ((client : ℕ) → (stage.come client).client.client ≡ client) → ((m : Move) → In m moves → IsTheirs script m.does) → Plays script.n clients stage moves all → IsChain (notes_by a all)
  chained _ _ _ who theirs no_moves = no_steps
  chained _ _ _ who theirs (next_move {stage = stage} {move = move} {moves = moves} {all = all} mine later whole at does taps plays) =
      subst IsChain (sym (ap (notes_by a) whole ∙ filter_map-append (note_by a) (happening (actor_of clients move.does) mine) later))
      (moved stage move.step move.does mine later who (theirs move (inl refl)) does
      (chained _ moves later (come_who move.does mine stage.come who) (λ m i. theirs m (inr i)) plays))

-- so the log of a client is that of its steps
pub chain : (b : Book) (script : Script) (a : ℕ) → HasSteps script b → IsClient (setup_of script) a → InSteps (AreStepDeeds script (a - 1)) (notes_of b a)
chain b script a steps client =
    subst (InSteps (AreStepDeeds script (a - 1))) (sym (steps.notes a))
    (chained script a client.low client.high (first_stage script) (moves_of script) steps.all (λ client. refl) (moves_theirs script) steps.plays)

-- ---- section by section

module _ (script : Script) (client : ℕ) where
  -- the number of the client behind steps, one after another
  order_who : (section step : ℕ) (p last : Progress) (steps : List ClientStep) (notes : List Note) → p.client.client ≡ client → InOrder ClientGoes section step p steps notes last → last.client.client ≡ client
  order_who section _ _ _ _ _ who none_left = who
  order_who section _ _ last _ _ who (one_first {step = step} {s = p} {m = does} {rest = steps} next mine later whole at goes order) =
      order_who section (step + 1) next last steps later (ap (λ (p : Progress). p.client.client) goes.1 ∙ (behind_who p.client mine ∙ who)) order

  -- the notes of a section are those of its steps, and others come behind them
  in_order : (section step : ℕ) (p last : Progress) (steps : List ClientStep) (notes rest : List Note) → p.client.client ≡ client → ((does : ClientStep) → In does steps → In (Client client does) (all_steps script)) → InOrder ClientGoes section step p steps notes last → InSteps (AreStepDeeds script client) rest → InSteps (AreStepDeeds script client) (notes ++ rest)
  in_order section _ _ _ _ _ rest who theirs none_left behind = behind
  in_order section _ _ last _ _ rest who theirs (one_first {step = step} {s = p} {m = does} {rest = steps} next mine later whole at goes order) behind =
      next_step mine (later ++ rest) (ap (λ l. l ++ rest) whole ∙ append_assoc mine later rest)
      (record { come = p; who = who; does = does; theirs = theirs does (inl refl); such = goes.0 })
      (in_order section (step + 1) next last steps later rest (ap (λ (p : Progress). p.client.client) goes.1 ∙ (behind_who p.client mine ∙ who)) (λ other i. theirs other (inr i)) order behind)

  -- so are those of sections, one after another
  in_sections : IsCount script.clients client → (number : ℕ) (old last : Between) (sections : List Section) (lefts : List Left) → (old.come client).client.client ≡ client → ((step : Step) → In step (steps_in sections) → In step (all_steps script)) → PlaysSections script number old sections lefts last → InSteps (AreStepDeeds script client) (flat_map (λ (left : Left). left.notes (client + 1)) lefts)
  in_sections count _ _ _ _ _ who all no_sections = no_steps
  in_sections count _ _ last _ _ who all (next_section {number = number} {old = old} {section = section} {rest = rest} {left = left} {lefts = lefts} new plays later) =
      let order = plays.clients client count in
      in_order number 1 (old.come client) (new.come client) (client_steps client section) (left.notes (client + 1)) (flat_map (λ (left : Left). left.notes (client + 1)) lefts) who
      (λ does i. all (Client client does) (In_left section.steps (steps_in rest) (Client client does) (in_section client section does i))) order
      (in_sections count (number + 1) new last rest lefts (order_who number 1 (old.come client) (new.come client) (client_steps client section) (left.notes (client + 1)) who order) (λ step i. all step (In_right section.steps (steps_in rest) step i)) later)

-- so is the log of a client
pub section_chain : (b : Book) (script : Script) (a : ℕ) → HasSectionSteps script b → IsClient (setup_of script) a → InSteps (AreStepDeeds script (a - 1)) (notes_of b a)
section_chain b script a steps client =
    let same : a - 1 + 1 ≡ a = omega (arith, client.low) in
    subst (InSteps (AreStepDeeds script (a - 1))) (sym (steps.notes a (omega (arith, client.low), omega (arith, client.high))))
    (subst (λ n. InSteps (AreStepDeeds script (a - 1)) (flat_map (λ (left : Left). left.notes n) steps.lefts)) same
    (in_sections script (a - 1) (omega (arith, client.low), omega (arith, client.high)) 1 (first_between script) steps.last script.sections steps.lefts refl (λ step i. i) steps.plays))
