-- The moves of a run of a script on one thread: who does what next, and in which section and step.
use Rattle.std.specs.Prelude.{ℕ, ◌+◌, ◌-◌, ◌==◌, nat_le, max, cond, fold, length, map, flat_map, List, [], ◌∷◌, ◌++◌, Option, Some, None, slice_get}
use Rattle.std.specs.List.{filter_map, range_with_len}
use Rattle.std.specs.Option.{option_map}
use Rattle.list_core.specs.Choices.{when}
use Rattle.vv_core.specs.Vectors.{centres}
use Rattle.script_core.specs.declared.script.Script.{Script}
use Rattle.script_core.specs.declared.steps.ClientStep.{ClientStep}
use Rattle.script_core.specs.declared.steps.OperatorStep.{OperatorStep}
use Rattle.script_core.specs.declared.steps.Step.{Step}
use Rattle.script_core.specs.declared.steps.Step.TheVariants.{Client, Operator}
use Rattle.script_core.specs.declared.steps.Section.{Section}
use Rattle.script_core.specs.declared.rounds.Role.{Role}
use Rattle.script_core.specs.declared.rounds.Role.TheVariants.{Sender, Receiver, Reporter, Pruner}
use Rattle.script_core.specs.Rounds.{worker_of}

-- ---- a move

-- what an actor does: a step of a client or of the operator, a round of a worker of a centre, or the closing round of
-- its receiver
pub data Does : Type 0 where
  client_does : ℕ → ClientStep → Does
  operator_does : OperatorStep → Does
  worker_does : ℕ → Role → Does
  closes : ℕ → Does

-- what is done, with the number of its section, and that of the step or round there
pub record Move : Type 0 where
  pub section : ℕ
  pub step : ℕ
  pub does : Does

abbrev pub move : ℕ → ℕ → Does → Move
move section step does = record { section = section; step = step; does = does }

-- the actor, where there are so many clients
abbrev pub actor_of : ℕ → Does → ℕ
actor_of clients (client_does client step) = client + 1
actor_of clients (operator_does step) = 1
actor_of clients (worker_does i role) = worker_of clients i role
actor_of clients (closes i) = worker_of clients i Receiver

-- ---- the steps of an actor

-- what a client does in a step, where the step is the client's
abbrev pub client_step : ℕ → Step → Option ClientStep
client_step client (Client other step) = when (other == client) step
client_step client (Operator step) = None

-- what the operator does in a step, where the step is the operator's
abbrev pub operator_step : Step → Option OperatorStep
operator_step (Client client step) = None
operator_step (Operator step) = Some step

-- the steps of a client in a section
abbrev pub client_steps : ℕ → Section → List ClientStep
client_steps client section = filter_map (client_step client) section.steps

-- the steps of the operator in a section
abbrev pub operator_steps : Section → List OperatorStep
operator_steps section = filter_map operator_step section.steps

-- ---- the moves of a section

-- a section of one step
abbrev pub step_move : ℕ → Step → Move
step_move section (Client client step) = move section 1 (client_does client step)
step_move section (Operator step) = move section 1 (operator_does step)

-- turn t of a phase: each client that has a step left takes it
abbrev pub client_turn : ℕ → Section → ℕ → ℕ → Option Move
client_turn number section t client = option_map (λ step. move number t (client_does client step)) (slice_get (client_steps client section) (t - 1))

-- then the operator
abbrev pub operator_turn : ℕ → Section → ℕ → Option Move
operator_turn number section t = option_map (λ step. move number t (operator_does step)) (slice_get (operator_steps section) (t - 1))

-- the moves, where there is one
abbrev pub one_or_none : Option Move → List Move
one_or_none None = []
one_or_none (Some one) = one ∷ []

-- then the workers of each centre make their round, where there is one left; behind the last one each receiver closes
abbrev pub worker_turn : ℕ → ℕ → ℕ → ℕ → List Move
worker_turn number rounds t i = cond (nat_le t rounds) (map (λ role. move number t (worker_does i role)) (Sender ∷ Receiver ∷ Reporter ∷ Pruner ∷ [])) (cond (t == rounds + 1) (move number t (closes i) ∷ []) [])

-- all of turn t
abbrev pub turn_moves : Script → ℕ → Section → ℕ → List Move
turn_moves script number section t =
    filter_map (client_turn number section t) (range_with_len 1 script.clients)
    ++ one_or_none (operator_turn number section t)
    ++ flat_map (worker_turn number script.rounds t) (centres script.n)

-- the most steps that one of so many clients, or the operator, has in a section
abbrev pub most_steps : ℕ → Section → ℕ
most_steps clients section = fold max (length (operator_steps section)) (map (λ client. length (client_steps client section)) (range_with_len 1 clients))

-- a phase, in as many turns as there are steps of an actor, rounds and closing rounds
abbrev pub phase_moves : Script → ℕ → Section → List Move
phase_moves script number section = flat_map (turn_moves script number section) (range_with_len 1 (max (most_steps script.clients section) (script.rounds + 1)))

-- a section
abbrev pub section_moves : Script → ℕ → Section → List Move
section_moves script number section = cond section.phase (phase_moves script number section) (map (step_move number) section.steps)

-- sections, counted from a number on
abbrev pub moves_from : Script → ℕ → List Section → List Move
moves_from script number [] = []
moves_from script number (section ∷ rest) = section_moves script number section ++ moves_from script (number + 1) rest

-- the moves of a script
abbrev pub moves_of : Script → List Move
moves_of script = moves_from script 1 script.sections
