-- The steps of clients that are made as moves of a script are steps of the script.
use Rattle.std.proofs.Common.{◌≡◌, ℕ, ◌+◌, ◌-◌, ⊎_elim, Bool, true, false, cond, List, [], ◌∷◌, ◌++◌, map, Option, Some, None, refl, sym, subst}
use Rattle.std.specs.Prelude.{◌==◌, nat_le, max, slice_get, flat_map}
use Rattle.std.specs.List.{filter_map, range_with_len}
use Rattle.std.specs.Option.{option_map}
use Rattle.std.proofs.lemmas.Bool.{eqb-true}
use Rattle.std.proofs.lemmas.Option.{none-some, same_Some}
use Rattle.list_core.specs.Members.{In}
use Rattle.list_core.specs.Choices.{when}
use Rattle.list_core.proofs.Gets.{get_In}
use Rattle.list_core.proofs.Members.{In_left, In_right, In_either, In_from_map, In_from_flat_map}
use Rattle.list_core.proofs.Passing.{In_from_filter_map}
use Rattle.vv_core.specs.Vectors.{centres}
use Rattle.script_core.specs.declared.script.Script.{Script}
use Rattle.script_core.specs.declared.steps.ClientStep.{ClientStep}
use Rattle.script_core.specs.declared.steps.OperatorStep.{OperatorStep}
use Rattle.script_core.specs.declared.steps.Step.{Step}
use Rattle.script_core.specs.declared.steps.Step.TheVariants.{Client, Operator}
use Rattle.script_core.specs.declared.steps.Section.{Section}
use Rattle.script_core.specs.declared.rounds.Role.{Role}
use Rattle.script_core.specs.declared.rounds.Role.TheVariants.{Sender, Receiver, Reporter, Pruner}
use Rattle.run_book.specs.Moves.{Does, client_does, operator_does, worker_does, closes, Move, move, client_step, client_steps, operator_steps, step_move, client_turn, operator_turn, one_or_none, worker_turn, turn_moves, most_steps, section_moves, moves_from, moves_of}
use Rattle.run_steps.specs.Logs.{steps_in, all_steps}

-- ---- the steps of a client in a section

-- where a step is the client's
one_step : (client : ℕ) (whole : Step) (step : ClientStep) → client_step client whole ≡ Some step → whole ≡ Client client step
one_step client (Client other made) step is = go (other == client) refl is
  where
    go : (b : Bool) → (other == client) ≡ b → when b made ≡ Some step → Client other made ≡ Client client step
    go true same is = λ i. Client (eqb-true other client same i) (same_Some made step is i)
    go false same is = absurd (none-some step is)
one_step client (Operator made) step is = absurd (none-some step is)

-- they are steps of the section
pub in_section : (client : ℕ) (section : Section) (step : ClientStep) → In step (client_steps client section) → In (Client client step) section.steps
in_section client section step i =
    let whole = In_from_filter_map (client_step client) section.steps step i in
    subst (λ s. In s section.steps) (one_step client whole.0 step whole.2) whole.1

-- ---- moves

-- a step of a client is one of the script
abbrev pub IsTheirs : Script → Does → Type 0
IsTheirs script (client_does client step) = In (Client client step) (all_steps script)
IsTheirs script _ = Unit {0}

module _ (script : Script) (number : ℕ) (section : Section) (all : (step : Step) → In step section.steps → In step (all_steps script)) where
  -- the move of a step alone
  step_theirs : (step : Step) → In step section.steps → IsTheirs script (step_move number step).does
  step_theirs (Client client step) i = all (Client client step) i
  step_theirs (Operator step) i = tt

  -- the moves of a turn
  client_theirs : (t client : ℕ) (m : Move) → client_turn number section t client ≡ Some m → IsTheirs script m.does
  client_theirs t client m is = go (slice_get (client_steps client section) (t - 1)) refl is
    where
      go : (o : Option ClientStep) → slice_get (client_steps client section) (t - 1) ≡ o → option_map (λ step. move number t (client_does client step)) o ≡ Some m → IsTheirs script m.does
      go None at is = absurd (none-some m is)
      go (Some step) at is = subst (λ (m : Move). IsTheirs script m.does) (same_Some (move number t (client_does client step)) m is) (all (Client client step) (in_section client section step (get_In (client_steps client section) (t - 1) step at)))

  operator_theirs : (t : ℕ) (m : Move) → In m (one_or_none (operator_turn number section t)) → IsTheirs script m.does
  operator_theirs t m i = go (slice_get (operator_steps section) (t - 1)) i
    where
      go : (o : Option OperatorStep) → In m (one_or_none (option_map (λ step. move number t (operator_does step)) o)) → IsTheirs script m.does
      go None i = absurd i
      go (Some step) i = ⊎_elim (λ same. subst (λ (m : Move). IsTheirs script m.does) (sym same) tt) (λ j. absurd j) i

  worker_theirs : (t i : ℕ) (m : Move) → In m (worker_turn number script.rounds t i) → IsTheirs script m.does
  worker_theirs t i m k = go (nat_le t script.rounds) (t == script.rounds + 1) k
    where
      roles : List Role
      roles = Sender ∷ Receiver ∷ Reporter ∷ Pruner ∷ []

      go : (b c : Bool) → In m (cond b (map (λ role. move number t (worker_does i role)) roles) (cond c (move number t (closes i) ∷ []) [])) → IsTheirs script m.does
      go true c k = let one = In_from_map (λ (role : Role). move number t (worker_does i role)) roles m k in subst (λ (m : Move). IsTheirs script m.does) (sym one.2) tt
      go false true k = ⊎_elim (λ same. subst (λ (m : Move). IsTheirs script m.does) (sym same) tt) (λ j. absurd j) k
      go false false k = absurd k

  turn_theirs : (t : ℕ) (m : Move) → In m (turn_moves script number section t) → IsTheirs script m.does
  turn_theirs t m i =
      let clients : List Move = filter_map (client_turn number section t) (range_with_len 1 script.clients) in
      let operator : List Move = one_or_none (operator_turn number section t) in
      let workers : List Move = flat_map (worker_turn number script.rounds t) (centres script.n) in
      ⊎_elim
      (λ j. ⊎_elim (λ k. let one = In_from_filter_map (client_turn number section t) (range_with_len 1 script.clients) m k in client_theirs t one.0 m one.2) (operator_theirs t m) (In_either clients operator m j))
      (λ j. let one = In_from_flat_map (worker_turn number script.rounds t) (centres script.n) m j in worker_theirs t one.0 m one.2)
      (In_either (clients ++ operator) workers m i)

  -- the moves of the section
  section_theirs : (m : Move) → In m (section_moves script number section) → IsTheirs script m.does
  section_theirs m i = go section.phase i
    where
      turns : List ℕ
      turns = range_with_len 1 (max (most_steps script.clients section) (script.rounds + 1))

      go : (b : Bool) → In m (cond b (flat_map (turn_moves script number section) turns) (map (step_move number) section.steps)) → IsTheirs script m.does
      go true i = let one = In_from_flat_map (turn_moves script number section) turns m i in turn_theirs one.0 m one.2
      go false i = let one = In_from_map (step_move number) section.steps m i in subst (λ (m : Move). IsTheirs script m.does) (sym one.2) (step_theirs one.0 one.1)

-- the moves of sections that the script has
from_theirs : (script : Script) (number : ℕ) (sections : List Section) → ((step : Step) → In step (steps_in sections) → In step (all_steps script)) → (m : Move) → In m (moves_from script number sections) → IsTheirs script m.does
from_theirs script number [] all m i = absurd i
from_theirs script number (section ∷ rest) all m i =
    ⊎_elim
    (section_theirs script number section (λ step j. all step (In_left section.steps (steps_in rest) step j)) m)
    (from_theirs script (number + 1) rest (λ step j. all step (In_right section.steps (steps_in rest) step j)) m)
    (In_either (section_moves script number section) (moves_from script (number + 1) rest) m i)

-- so all moves of a script
pub moves_theirs : (script : Script) (m : Move) → In m (moves_of script) → IsTheirs script m.does
moves_theirs script m i = from_theirs script 1 script.sections (λ step j. j) m i
