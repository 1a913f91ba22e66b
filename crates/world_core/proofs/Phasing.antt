-- A phase by turns: one client, one centre, one turn more.
use Rattle.std.proofs.Common.{◌≡◌, ◌≤◌, ◌<◌, ℕ, ◌+◌, ◌-◌, Bool, true, false, cond, List, [], ◌∷◌, ◌++◌, map, length, get_or, Option, Some, None, refl, sym, ap, ◌∙◌, subst, append-nil, arith}
use Rattle.std.specs.Prelude.{◌==◌, nat_le, flat_map, slice_get, All}
use Rattle.std.specs.List.{cons_option, filter, filter_map, range_with_len}
use Rattle.std.specs.Option.{option_map}
use Rattle.std.proofs.lemmas.Bool.{eq-eqb, ne_eqb, le-leb, lt-leb, leb-false}
use Rattle.std.proofs.lemmas.Option.{slice_get_past}
use Rattle.std.proofs.lemmas.List.FromFn.{length-range_with_len, get_or-range_with_len}
use Rattle.std.proofs.lemmas.List.Elements.{All-head, All-tail, filter_map-append}
use Rattle.script_core.specs.Steps.{IsCount}
use Rattle.script_core.specs.declared.steps.ClientStep.{ClientStep}
use Rattle.script_core.specs.declared.steps.OperatorStep.{OperatorStep}
use Rattle.script_core.specs.declared.steps.Section.{Section}
use Rattle.script_core.specs.declared.rounds.Role.TheVariants.{Sender, Receiver, Reporter, Pruner}
use Rattle.run_book.specs.Moves.{Move, move, client_does, operator_does, worker_does, closes, client_steps, client_turn, operator_turn, one_or_none, worker_turn}
use Rattle.run_book.proofs.Moves.{counted_more}
use Rattle.run_table.specs.declared.dealing.Dealt.{Dealt}
use Rattle.run_table.specs.Dealing.{IsDealt, line_of}
use Rattle.world_core.specs.Worlds.{WorldView}
use Rattle.world_core.specs.Runs.{MakesMoves}
use Rattle.world_core.proofs.Making.{makes_none, makes_then}

-- ---- clients

-- the numbers of so many clients
pub all_count : (clients : ℕ) → All (IsCount clients) (range_with_len 1 clients)
all_count clients = λ place d within.
    let long : length (range_with_len 1 clients) ≡ clients = length-range_with_len 1 clients in
    let at : get_or (range_with_len 1 clients) place d ≡ 1 + place = get_or-range_with_len 1 clients place d (omega (arith, long, within)) in
    (omega (arith, at), omega (arith, at, long, within))

module _ (clients : ℕ) (section : Section) (dealt : Dealt) (is : IsDealt clients section.steps dealt) (number turn : ℕ) where
  -- what was dealt to a client are its steps
  pub line_is : (client : ℕ) → 1 ≤ client → client ≤ clients → slice_get (line_of dealt client) (turn - 1) ≡ slice_get (client_steps client section) (turn - 1)
  line_is client low high = ap (λ line. slice_get line (turn - 1)) (is.each client low high)

  -- a client that has a step takes it behind those before it
  pub client_took : (front : List ℕ) (client : ℕ) (step : ClientStep) (a b c : WorldView) → IsCount clients client → Some step ≡ slice_get (line_of dealt client) (turn - 1) → MakesMoves (filter_map (client_turn number section turn) front) a b → MakesMoves (move number turn (client_does client step) ∷ []) b c → MakesMoves (filter_map (client_turn number section turn) (front ++ client ∷ [])) a c
  client_took front client step a b c count there before makes =
      let turns : ℕ → Option Move = client_turn number section turn in
      let gives : turns client ≡ Some (move number turn (client_does client step)) = ap (option_map (λ step. move number turn (client_does client step))) (sym (there ∙ line_is client count.0 count.1)) in
      subst (λ moves. MakesMoves moves a c) (sym (filter_map-append turns front (client ∷ []) ∙ ap (λ o. filter_map turns front ++ cons_option o []) gives))
      (makes_then (filter_map turns front) (move number turn (client_does client step) ∷ []) a b c before makes)

  -- one that has none does nothing
  pub client_idle : (front : List ℕ) (client : ℕ) (a b : WorldView) → IsCount clients client → None ≡ slice_get (line_of dealt client) (turn - 1) → MakesMoves (filter_map (client_turn number section turn) front) a b → MakesMoves (filter_map (client_turn number section turn) (front ++ client ∷ [])) a b
  client_idle front client a b count there before =
      let turns : ℕ → Option Move = client_turn number section turn in
      let gives : turns client ≡ None = ap (option_map (λ step. move number turn (client_does client step))) (sym (there ∙ line_is client count.0 count.1)) in
      subst (λ moves. MakesMoves moves a b) (sym (filter_map-append turns front (client ∷ []) ∙ (ap (λ o. filter_map turns front ++ cons_option o []) gives ∙ append-nil (filter_map turns front)))) before

  -- a client with fewer steps has no move in this turn, nor later
  no_turn : (client later : ℕ) → IsCount clients client → turn ≤ later → nat_le turn (length (line_of dealt client)) ≡ false → client_turn number section later client ≡ None
  no_turn client later count low few =
      let short : length (line_of dealt client) ≤ later - 1 = omega (arith, low, leb-false turn (length (line_of dealt client)) few) in
      ap (option_map (λ step. move number later (client_does client step))) (ap (λ line. slice_get line (later - 1)) (sym (is.each client count.0 count.1)) ∙ slice_get_past (line_of dealt client) (later - 1) short)

  -- so one client more makes no difference
  left_one : (client : ℕ) (all : List ℕ) (later : ℕ) (test : Bool) → IsCount clients client → turn ≤ later → nat_le turn (length (line_of dealt client)) ≡ test → filter_map (client_turn number section later) (filter (λ client. nat_le turn (length (line_of dealt client))) all) ≡ filter_map (client_turn number section later) all → filter_map (client_turn number section later) (cond test (client ∷ filter (λ client. nat_le turn (length (line_of dealt client))) all) (filter (λ client. nat_le turn (length (line_of dealt client))) all)) ≡ filter_map (client_turn number section later) (client ∷ all)
  left_one client all later true count low more rest = ap (λ (moves : List Move). cons_option (client_turn number section later client) moves) rest
  left_one client all later false count low few rest = rest ∙ ap (λ (o : Option Move). cons_option o (filter_map (client_turn number section later) all)) (sym (no_turn client later count low few))

  -- those that have as many have all moves of this turn, and of the later ones
  pub left_same : (all : List ℕ) (later : ℕ) → turn ≤ later → All (IsCount clients) all → filter_map (client_turn number section later) (filter (λ client. nat_le turn (length (line_of dealt client))) all) ≡ filter_map (client_turn number section later) all
  left_same [] later low counts = refl
  left_same (client ∷ all) later low counts =
      left_one client all later (nat_le turn (length (line_of dealt client))) (All-head (IsCount clients) client all counts) low refl
      (left_same all later low (All-tail (IsCount clients) client all counts))

  -- ---- the operator

  pub operator_took : (step : OperatorStep) (a b : WorldView) → Some step ≡ slice_get dealt.operator.items (turn - 1) → MakesMoves (move number turn (operator_does step) ∷ []) a b → MakesMoves (one_or_none (operator_turn number section turn)) a b
  operator_took step a b there = subst (λ o. MakesMoves (one_or_none (option_map (λ step. move number turn (operator_does step)) o)) a b) (there ∙ ap (λ line. slice_get line (turn - 1)) is.operator)

  pub operator_idle : (a : WorldView) → None ≡ slice_get dealt.operator.items (turn - 1) → MakesMoves (one_or_none (operator_turn number section turn)) a a
  operator_idle a there = subst (λ o. MakesMoves (one_or_none (option_map (λ step. move number turn (operator_does step)) o)) a a) (there ∙ ap (λ line. slice_get line (turn - 1)) is.operator) (makes_none a)

-- ---- workers

-- a round of each of the workers of a centre
pub centre_round : (number rounds turn centre : ℕ) (a b c d e : WorldView) → turn ≤ rounds → MakesMoves (move number turn (worker_does centre Sender) ∷ []) a b → MakesMoves (move number turn (worker_does centre Receiver) ∷ []) b c → MakesMoves (move number turn (worker_does centre Reporter) ∷ []) c d → MakesMoves (move number turn (worker_does centre Pruner) ∷ []) d e → MakesMoves (worker_turn number rounds turn centre) a e
centre_round number rounds turn centre a b c d e high one two three four =
    let does : _ → Move = λ role. move number turn (worker_does centre role) in
    subst (λ test. MakesMoves (cond test (map does (Sender ∷ Receiver ∷ Reporter ∷ Pruner ∷ [])) (cond (turn == rounds + 1) (move number turn (closes centre) ∷ []) [])) a e) (sym (le-leb turn rounds high))
    (makes_then (does Sender ∷ []) (does Receiver ∷ does Reporter ∷ does Pruner ∷ []) a b e one
    (makes_then (does Receiver ∷ []) (does Reporter ∷ does Pruner ∷ []) b c e two
    (makes_then (does Reporter ∷ []) (does Pruner ∷ []) c d e three four)))

-- the closing round of the receiver
pub centre_close : (number rounds turn centre : ℕ) (a b : WorldView) → turn ≡ rounds + 1 → MakesMoves (move number turn (closes centre) ∷ []) a b → MakesMoves (worker_turn number rounds turn centre) a b
centre_close number rounds turn centre a b last makes =
    let past : nat_le turn rounds ≡ false = lt-leb turn rounds (omega (arith, last)) in
    subst (λ test. MakesMoves (cond test (map (λ role. move number turn (worker_does centre role)) (Sender ∷ Receiver ∷ Reporter ∷ Pruner ∷ [])) (cond (turn == rounds + 1) (move number turn (closes centre) ∷ []) [])) a b) (sym past)
    (subst (λ test. MakesMoves (cond test (move number turn (closes centre) ∷ []) []) a b) (sym (eq-eqb turn (rounds + 1) last)) makes)

-- and nothing behind it
pub centre_idle : (number rounds turn centre : ℕ) (a : WorldView) → rounds < turn → (turn ≡ rounds + 1 → ⊥) → MakesMoves (worker_turn number rounds turn centre) a a
centre_idle number rounds turn centre a past other =
    subst (λ test. MakesMoves (cond test (map (λ role. move number turn (worker_does centre role)) (Sender ∷ Receiver ∷ Reporter ∷ Pruner ∷ [])) (cond (turn == rounds + 1) (move number turn (closes centre) ∷ []) [])) a a) (sym (lt-leb turn rounds past))
    (subst (λ test. MakesMoves (cond test (move number turn (closes centre) ∷ []) []) a a) (sym (ne_eqb turn (rounds + 1) other)) (makes_none a))

-- ---- what is counted from 1

-- one more
pub counted_then : (f : ℕ → List Move) (k : ℕ) (a b c : WorldView) → MakesMoves (flat_map f (range_with_len 1 k)) a b → MakesMoves (f (k + 1)) b c → MakesMoves (flat_map f (range_with_len 1 (k + 1))) a c
counted_then f k a b c before makes = subst (λ moves. MakesMoves moves a c) (sym (counted_more f k)) (makes_then (flat_map f (range_with_len 1 k)) (f (k + 1)) a b c before makes)
