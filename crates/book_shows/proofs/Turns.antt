-- The feeds of a run on one thread: the operator's notes of a section are those of its steps there, in order.
use Rattle.std.proofs.Common.{◌≡◌, ◌≢◌, ℕ, zero, suc, ◌+◌, ◌-◌, ◌≤◌, inl, inr, Bool, true, false, cond, List, [], ◌∷◌, ◌++◌, map, length, Option, Some, None, refl, sym, ap, ◌∙◌, subst, append_assoc, arith}
use Rattle.std.specs.Prelude.{All, ◌==◌, nat_le, max, flat_map, fold, slice_get}
use Rattle.std.specs.List.{filter_map, range_with_len}
use Rattle.std.specs.Option.{option_map}
use Rattle.std.proofs.Math.Nat.{le-max_left}
use Rattle.std.proofs.lemmas.List.Elements.{All-head, All-tail, filter_map-append}
use Rattle.std.proofs.lemmas.Option.{none-some, same_Some}
use Rattle.list_core.specs.Members.{In}
use Rattle.list_core.proofs.Members.{In_from_flat_map, In_from_map}
use Rattle.list_core.proofs.Passing.{In_from_filter_map}
use Rattle.list_core.proofs.Ranges.{In_from_range}
use Rattle.vv_core.specs.Vectors.{centres}
use Rattle.ids_core.specs.declared.object.ObjectId.{ObjectId}
use Rattle.dc_talk.specs.declared.log.Deed.{Deed}
use Rattle.dc_talk.specs.declared.log.Note.{Note}
use Rattle.script_core.specs.declared.script.Script.{Script}
use Rattle.script_core.specs.declared.rounds.Role.{Role}
use Rattle.script_core.specs.declared.rounds.Role.TheVariants.{Sender, Receiver, Reporter, Pruner}
use Rattle.script_core.specs.declared.steps.ClientStep.{ClientStep}
use Rattle.script_core.specs.declared.steps.OperatorStep.{OperatorStep}
use Rattle.script_core.specs.declared.steps.Section.{Section}
use Rattle.script_core.specs.declared.steps.Step.{Step}
use Rattle.script_core.specs.declared.steps.Step.TheVariants.{Client, Operator}
use Rattle.script_core.specs.declared.taps.Show.{Show}
use Rattle.script_core.specs.declared.taps.TapState.{TapState}
use Rattle.script_core.specs.Feeds.{FeedDeeds, show_in}
use Rattle.script_core.specs.Rows.{section_of, IsSection}
use Rattle.script_core.specs.Scripts.{header_of}
use Rattle.script_core.specs.Steps.{IsStepOf}
use Rattle.script_core.specs.Taps.{fed_tap, feed_in, FeedsAt, FeedsSo, taps_fed}
use Rattle.run_book.specs.Happenings.{Happened, note_by, notes_by, happening}
use Rattle.run_book.specs.Moves.{Does, client_does, operator_does, worker_does, closes, Move, move, actor_of, client_steps, operator_steps, client_turn, operator_turn, one_or_none, step_move, worker_turn, turn_moves, most_steps, phase_moves, section_moves, moves_from}
use Rattle.run_book.specs.Played.{Stage, taps_after, stage_after, IsAt, Plays, no_moves, next_move}
use Rattle.run_book.proofs.Happenings.Entries.{own_then, other_then}
use Rattle.run_sections.specs.Orders.{deeds_of, InOrder, none_left, one_first}
use Rattle.run_sections.specs.Taps.{shows_at, shows_fed, FeedGoes}
use Rattle.run_sections.proofs.Turns.{IsQuiet, quiet_actor, fold_most}
use Rattle.book_shows.proofs.Sections.{AreFed, none_fed, next_fed}

-- ---- the objects of taps

-- a feed keeps them
kept_fed : (fed : Option ℕ) (deeds : List Deed) (taps : ℕ → TapState) (i : ℕ) → (taps_fed fed deeds taps i).objects ≡ (taps i).objects
kept_fed None deeds taps i = refl
kept_fed (Some fed) deeds taps i = go (i == fed) (show_in deeds)
  where
    go : (own : Bool) (found : Option Show) → (cond own (fed_tap found (taps i)) (taps i)).objects ≡ (taps i).objects
    go true None = refl
    go true (Some show) = refl
    go false found = refl

-- so does all that is done
kept_after : (does : Does) (deeds : List Deed) (taps : ℕ → TapState) (i : ℕ) → (taps_after does deeds taps i).objects ≡ (taps i).objects
kept_after (client_does client step) deeds taps i = refl
kept_after (operator_does step) deeds taps i = kept_fed (feed_in step) deeds taps i
kept_after (worker_does j role) deeds taps i = refl
kept_after (closes j) deeds taps i = refl

-- a feed of taps with the same objects
feeds_own : (taps others : ℕ → TapState) (fed : Option ℕ) (deeds : List Deed) → ((i : ℕ) → (others i).objects ≡ (taps i).objects) → FeedsAt others deeds fed → FeedsAt taps deeds fed
feeds_own taps others None deeds same feeds = tt
feeds_own taps others (Some fed) deeds same feeds = subst (λ (objects : List ObjectId). FeedDeeds fed objects deeds) (same fed) feeds

module _ (script : Script) (taps : ℕ → TapState) where
  -- the taps of a stage have the objects of these
  abbrev Keeps : Stage → Type 0
  Keeps stage = (i : ℕ) → (stage.taps i).objects ≡ (taps i).objects

  -- ---- moves

  -- what was played behind moves of others
  record Behind (more : List Move) (all : List Happened) : Type 0 where
    mid : Stage
    later : List Happened
    kept : Keeps mid
    rest : Plays script.n script.clients mid more later
    own : notes_by 1 all ≡ notes_by 1 later

  quiet_moves : (moves more : List Move) (stage : Stage) (all : List Happened) → ((one : Move) → In one moves → IsQuiet one.does) → Keeps stage → Plays script.n script.clients stage (moves ++ more) all → Behind more all
  quiet_moves [] more stage all each kept plays = record { mid = stage; later = all; kept = kept; rest = plays; own = refl }
  quiet_moves (one ∷ moves) more stage all each kept (next_move mine later whole at does fed plays) =
      let actor = actor_of script.clients one.does in
      let r = quiet_moves moves more (stage_after one.does mine stage) later (λ other there. each other (inr there)) (λ i. kept_after one.does (deeds_of mine) stage.taps i ∙ kept i) plays in
      let none : notes_by 1 (happening actor mine) ≡ [] = other_then actor 1 [] mine (quiet_actor script.clients one.does (each one (inl refl))) in
      record {
        mid = r.mid;
        later = r.later;
        kept = r.kept;
        rest = r.rest;
        own = ap (notes_by 1) whole ∙ (filter_map-append (note_by 1) (happening actor mine) later ∙ (ap (λ ns. ns ++ notes_by 1 later) none ∙ r.own));
      }

  -- what was played behind a step of the operator
  record Stepped (number t : ℕ) (step : OperatorStep) (more : List Move) (all : List Happened) : Type 0 where
    mid : Stage
    later : List Happened
    mine : List Note
    kept : Keeps mid
    rest : Plays script.n script.clients mid more later
    own : notes_by 1 all ≡ mine ++ notes_by 1 later
    at : All (IsAt number t) mine
    feeds : FeedsSo taps step (deeds_of mine)

  step_played : (number t : ℕ) (step : OperatorStep) (more : List Move) (stage : Stage) (all : List Happened) → Keeps stage → Plays script.n script.clients stage (move number t (operator_does step) ∷ more) all → Stepped number t step more all
  step_played number t step more stage all kept (next_move mine later whole at does fed plays) = record {
    mid = stage_after (operator_does step) mine stage;
    later = later;
    mine = mine;
    kept = λ i. kept_fed (feed_in step) (deeds_of mine) stage.taps i ∙ kept i;
    rest = plays;
    own = ap (notes_by 1) whole ∙ (filter_map-append (note_by 1) (happening 1 mine) later ∙ ap (λ ns. ns ++ notes_by 1 later) (own_then 1 [] mine));
    at = at;
    feeds = feeds_own taps stage.taps (feed_in step) (deeds_of mine) kept fed;
  }

  -- what was played of a section from turn t on, in which the operator had these steps left
  record Played (number t : ℕ) (steps : List OperatorStep) (first : ℕ → List Show) (more : List Move) (all : List Happened) : Type 0 where
    mid : Stage
    later : List Happened
    mine : List Note
    last : ℕ → List Show
    kept : Keeps mid
    rest : Plays script.n script.clients mid more later
    own : notes_by 1 all ≡ mine ++ notes_by 1 later
    order : InOrder (FeedGoes taps) number t first steps mine last

  -- nothing of it
  none_played : (number t : ℕ) (first : ℕ → List Show) (more : List Move) (stage : Stage) (all : List Happened) → Keeps stage → Plays script.n script.clients stage more all → Played number t [] first more all
  none_played number t first more stage all kept plays = record { mid = stage; later = all; mine = []; last = first; kept = kept; rest = plays; own = refl; order = none_left }

  -- it, behind moves of others
  after_quiet : (number t : ℕ) (steps : List OperatorStep) (first : ℕ → List Show) (between more : List Move) (all : List Happened) (q : Behind between all) → Played number t steps first more q.later → Played number t steps first more all
  after_quiet number t steps first between more all q p = record { mid = p.mid; later = p.later; mine = p.mine; last = p.last; kept = p.kept; rest = p.rest; own = q.own ∙ p.own; order = p.order }

  -- it, behind a step of the operator
  after_step : (number t : ℕ) (step : OperatorStep) (steps : List OperatorStep) (first : ℕ → List Show) (between more : List Move) (all : List Happened) (s : Stepped number t step between all) → Played number (t + 1) steps (shows_fed (feed_in step) (deeds_of s.mine) first) more s.later → Played number t (step ∷ steps) first more all
  after_step number t step steps first between more all s p = record {
    mid = p.mid;
    later = p.later;
    mine = s.mine ++ p.mine;
    last = p.last;
    kept = p.kept;
    rest = p.rest;
    own = s.own ∙ (ap (λ ns. s.mine ++ ns) p.own ∙ sym (append_assoc s.mine p.mine (notes_by 1 p.later)));
    order = one_first (shows_fed (feed_in step) (deeds_of s.mine) first) s.mine p.mine refl s.at (s.feeds, λ centre. refl) p.order;
  }

  -- without steps a turn is as the next one
  none_before : (number t : ℕ) (first : ℕ → List Show) (more : List Move) (all : List Happened) → Played number (t + 1) [] first more all → Played number t [] first more all
  none_before number t first more all p = go p.mine p.last p.own p.order
    where
      go : (mine : List Note) (last : ℕ → List Show) → notes_by 1 all ≡ mine ++ notes_by 1 p.later → InOrder (FeedGoes taps) number (t + 1) first [] mine last → Played number t [] first more all
      go mine last own none_left = record { mid = p.mid; later = p.later; mine = []; last = first; kept = p.kept; rest = p.rest; own = own; order = none_left }

  -- ---- turns

  client_quiet : (number t client : ℕ) (section : Section) (one : Move) → 1 ≤ client → client_turn number section t client ≡ Some one → IsQuiet one.does
  client_quiet number t client section one low is = go (slice_get (client_steps client section) (t - 1)) is
    where
      go : (o : Option ClientStep) → option_map (λ step. move number t (client_does client step)) o ≡ Some one → IsQuiet one.does
      go None is = absurd (none-some one is)
      go (Some step) is = subst (λ (one : Move). IsQuiet one.does) (same_Some (move number t (client_does client step)) one is) low

  worker_quiet : (number t i : ℕ) (one : Move) → In one (worker_turn number script.rounds t i) → IsQuiet one.does
  worker_quiet number t i one there = go (nat_le t script.rounds) (t == script.rounds + 1) there
    where
      go : (round last : Bool) → In one (cond round (map (λ role. move number t (worker_does i role)) (Sender ∷ Receiver ∷ Reporter ∷ Pruner ∷ [])) (cond last (move number t (closes i) ∷ []) [])) → IsQuiet one.does
      go true last there = let from = In_from_map (λ role. move number t (worker_does i role)) (Sender ∷ Receiver ∷ Reporter ∷ Pruner ∷ []) one there in subst (λ (one : Move). IsQuiet one.does) (sym from.2) tt
      go false true (inl same) = subst (λ (one : Move). IsQuiet one.does) (sym same) tt
      go false true (inr none) = absurd none
      go false false there = absurd there

  -- the workers' part of a turn
  abbrev workers_in : ℕ → ℕ → List Move
  workers_in number t = flat_map (worker_turn number script.rounds t) (centres script.n)

  -- behind the clients' part
  clients_played : (number t : ℕ) (section : Section) (more : List Move) (stage : Stage) (all : List Happened) → Keeps stage → Plays script.n script.clients stage (turn_moves script number section t ++ more) all → Behind (one_or_none (operator_turn number section t) ++ (workers_in number t ++ more)) all
  clients_played number t section more stage all kept plays =
      let clients = filter_map (client_turn number section t) (range_with_len 1 script.clients) in
      let operator = one_or_none (operator_turn number section t) in
      quiet_moves clients (operator ++ (workers_in number t ++ more)) stage all
      (λ one there. let from = In_from_filter_map (client_turn number section t) (range_with_len 1 script.clients) one there in client_quiet number t from.0 section one (In_from_range 1 script.clients from.0 from.1).0 from.2)
      kept (subst (λ moves. Plays script.n script.clients stage moves all) (append_assoc (clients ++ operator) (workers_in number t) more ∙ append_assoc clients operator (workers_in number t ++ more)) plays)

  -- behind the workers' part
  workers_played : (number t : ℕ) (more : List Move) (stage : Stage) (all : List Happened) → Keeps stage → Plays script.n script.clients stage (workers_in number t ++ more) all → Behind more all
  workers_played number t more stage all kept plays = quiet_moves (workers_in number t) more stage all
      (λ one there. let from = In_from_flat_map (worker_turn number script.rounds t) (centres script.n) one there in worker_quiet number t from.0 one from.2) kept plays

  -- the operator's part is the next of its steps
  operator_next : (number t : ℕ) (section : Section) (steps : List OperatorStep) (more : List Move) (stage : Stage) (all : List Happened) → slice_get (operator_steps section) (t - 1 + 0) ≡ slice_get steps 0 → Plays script.n script.clients stage (one_or_none (operator_turn number section t) ++ more) all → Plays script.n script.clients stage (one_or_none (option_map (λ step. move number t (operator_does step)) (slice_get steps 0)) ++ more) all
  operator_next number t section steps more stage all at plays =
      let place : t - 1 ≡ t - 1 + 0 = omega arith in
      subst (λ o. Plays script.n script.clients stage (one_or_none (option_map (λ step. move number t (operator_does step)) o) ++ more) all) (ap (slice_get (operator_steps section)) place ∙ at) plays

  -- turns, one after another, as many as the operator has steps left or more
  turns_played : (number t count : ℕ) (section : Section) (steps : List OperatorStep) (first : ℕ → List Show) (more : List Move) (stage : Stage) (all : List Happened) → 1 ≤ t → length steps ≤ count → ((k : ℕ) → slice_get (operator_steps section) (t - 1 + k) ≡ slice_get steps k) → Keeps stage → Plays script.n script.clients stage (flat_map (turn_moves script number section) (range_with_len t count) ++ more) all → Played number t steps first more all
  turns_played number t zero section [] first more stage all low enough at kept plays = none_played number t first more stage all kept plays
  turns_played number t zero section (step ∷ steps) first more stage all low enough at kept plays = absurd (omega (arith, enough))
  turns_played number t (suc count) section [] first more stage all low enough at kept plays =
      let others : List Move = flat_map (turn_moves script number section) (range_with_len (t + 1) count) in
      let work : List Move = workers_in number t ++ (others ++ more) in
      let q = clients_played number t section (others ++ more) stage all kept (subst (λ moves. Plays script.n script.clients stage moves all) (append_assoc (turn_moves script number section t) others more) plays) in
      let w = workers_played number t (others ++ more) q.mid q.later q.kept (operator_next number t section [] work q.mid q.later (at 0) q.rest) in
      let next : (k : ℕ) → slice_get (operator_steps section) (t + 1 - 1 + k) ≡ None = λ k. (let place : t + 1 - 1 + k ≡ t - 1 + suc k = omega (arith, low) in ap (slice_get (operator_steps section)) place ∙ at (suc k)) in
      let p = turns_played number (t + 1) count section [] first more w.mid w.later (omega arith) (omega arith) next w.kept w.rest in
      after_quiet number t [] first (one_or_none (operator_turn number section t) ++ work) more all q (after_quiet number t [] first (others ++ more) more q.later w (none_before number t first more w.later p))
  turns_played number t (suc count) section (step ∷ steps) first more stage all low enough at kept plays =
      let others : List Move = flat_map (turn_moves script number section) (range_with_len (t + 1) count) in
      let work : List Move = workers_in number t ++ (others ++ more) in
      let q = clients_played number t section (others ++ more) stage all kept (subst (λ moves. Plays script.n script.clients stage moves all) (append_assoc (turn_moves script number section t) others more) plays) in
      let s = step_played number t step work q.mid q.later q.kept (operator_next number t section (step ∷ steps) work q.mid q.later (at 0) q.rest) in
      let w = workers_played number t (others ++ more) s.mid s.later s.kept s.rest in
      let next : (k : ℕ) → slice_get (operator_steps section) (t + 1 - 1 + k) ≡ slice_get steps k = λ k. (let place : t + 1 - 1 + k ≡ t - 1 + suc k = omega (arith, low) in ap (slice_get (operator_steps section)) place ∙ at (suc k)) in
      let behind : ℕ → List Show = shows_fed (feed_in step) (deeds_of s.mine) first in
      let p = turns_played number (t + 1) count section steps behind more w.mid w.later (omega arith) (omega (arith, enough)) next w.kept w.rest in
      after_quiet number t (step ∷ steps) first (one_or_none (operator_turn number section t) ++ work) more all q (after_step number t step steps first work more q.later s (after_quiet number (t + 1) steps behind (others ++ more) more s.later w p))

  -- ---- a section

  -- one move alone
  one_quiet : (alone : Move) → IsQuiet alone.does → (one : Move) → In one (alone ∷ []) → IsQuiet one.does
  one_quiet alone quiet one (inl same) = subst (λ (one : Move). IsQuiet one.does) (sym same) quiet
  one_quiet alone quiet one (inr none) = absurd none

  -- of one step
  line_played : (number : ℕ) (step : Step) (first : ℕ → List Show) (more : List Move) (stage : Stage) (all : List Happened) → IsStepOf (header_of script) step → Keeps stage → Plays script.n script.clients stage (step_move number step ∷ more) all → Played number 1 (operator_steps (section_of step)) first more all
  line_played number (Client client does) first more stage all is kept plays =
      let q = quiet_moves (move number 1 (client_does client does) ∷ []) more stage all (one_quiet (move number 1 (client_does client does)) is.0.0) kept plays in
      after_quiet number 1 [] first more more all q (none_played number 1 first more q.mid q.later q.kept q.rest)
  line_played number (Operator does) first more stage all is kept plays =
      let s = step_played number 1 does more stage all kept plays in
      after_step number 1 does [] first more more all s (none_played number 2 (shows_fed (feed_in does) (deeds_of s.mine) first) more s.mid s.later s.kept s.rest)

  -- a phase
  phase_played : (number : ℕ) (section : Section) (first : ℕ → List Show) (more : List Move) (stage : Stage) (all : List Happened) → Keeps stage → Plays script.n script.clients stage (phase_moves script number section ++ more) all → Played number 1 (operator_steps section) first more all
  phase_played number section first more stage all kept plays =
      let most : ℕ = max (most_steps script.clients section) (script.rounds + 1) in
      let left : most_steps script.clients section ≤ most = le-max_left (most_steps script.clients section) (script.rounds + 1) in
      let few : length (operator_steps section) ≤ most_steps script.clients section = fold_most (map (λ client. length (client_steps client section)) (range_with_len 1 script.clients)) (length (operator_steps section)) in
      turns_played number 1 most section (operator_steps section) first more stage all (omega arith) (omega (arith, left, few)) (λ k. (let place : 1 - 1 + k ≡ k = omega arith in ap (slice_get (operator_steps section)) place)) kept plays

  -- each
  section_played : (number : ℕ) (section : Section) (first : ℕ → List Show) (more : List Move) (stage : Stage) (all : List Happened) → IsSection (header_of script) section → Keeps stage → Plays script.n script.clients stage (section_moves script number section ++ more) all → Played number 1 (operator_steps section) first more all
  section_played number section first more stage all (inl line) kept plays =
      subst (λ section. Played number 1 (operator_steps section) first more all) (sym line.1)
      (line_played number line.0 first more stage all line.2 kept (subst (λ section. Plays script.n script.clients stage (section_moves script number section ++ more) all) line.1 plays))
  section_played number section first more stage all (inr phase) kept plays =
      let is : section_moves script number section ≡ phase_moves script number section = ap (λ test. cond test (phase_moves script number section) (map (step_move number) section.steps)) phase.phase in
      phase_played number section first more stage all kept (subst (λ moves. Plays script.n script.clients stage (moves ++ more) all) is plays)

  -- ---- sections

  -- one after another
  pub turns_fed : (i number : ℕ) (sections : List Section) (stage : Stage) (all : List Happened) → All (IsSection (header_of script)) sections → Keeps stage → Plays script.n script.clients stage (moves_from script number sections) all → AreFed i (taps i).objects number sections (notes_by 1 all)
  turns_fed i number [] stage all sound kept no_moves = none_fed
  turns_fed i number (section ∷ rest) stage all sound kept plays =
      let p = section_played number section (shows_at taps) (moves_from script (number + 1) rest) stage all (All-head (IsSection (header_of script)) section rest sound) kept plays in
      next_fed taps (shows_at taps) p.last p.mine (notes_by 1 p.later) p.own refl p.order
      (turns_fed i (number + 1) rest p.mid p.later (All-tail (IsSection (header_of script)) section rest sound) p.kept p.rest)
