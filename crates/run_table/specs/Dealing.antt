-- The steps of a phase, dealt to its actors.
use Rattle.std.specs.Prelude.{◌≡◌, ◌≤◌, ℕ, ◌-◌, List, [], length, map, slice_index_or}
use Rattle.std.specs.List.{filter_map}
use Rattle.script_core.specs.declared.steps.ClientStep.{ClientStep}
use Rattle.script_core.specs.declared.steps.Step.{Step}
use Rattle.script_core.specs.declared.steps.Step.TheVariants.{Client, Operator}
use Rattle.script_core.specs.declared.steps.Section.{Section}
use Rattle.script_core.specs.declared.script.Script.{Script}
use Rattle.script_core.specs.Steps.{IsCount}
use Rattle.script_core.specs.Rows.{IsPhase}
use Rattle.script_core.specs.Scripts.{header_of, IsInRange}
use Rattle.run_book.specs.Moves.{client_step, operator_step}
use Rattle.run_table.specs.declared.dealing.Dealt.{Dealt}

-- a step is of one of so many clients, or of the operator
abbrev pub IsOf : ℕ → Step → Type 0
IsOf clients (Client client step) = IsCount clients client
IsOf clients (Operator step) = Unit {0}

-- what was dealt to a client
abbrev pub line_of : Dealt → ℕ → List ClientStep
line_of dealt client = slice_index_or (map (λ line. line.items) dealt.clients.items) (client - 1) []

-- to each of so many clients, and to the operator, its steps among these were dealt
pub record IsDealt (clients : ℕ) (steps : List Step) (dealt : Dealt) : Type 0 where
  pub count : length dealt.clients.items ≡ clients
  pub each : (client : ℕ) → 1 ≤ client → client ≤ clients → line_of dealt client ≡ filter_map (client_step client) steps
  pub operator : dealt.operator.items ≡ filter_map operator_step steps

-- a phase of a script, whose steps were dealt
pub record IsDealtPhase (script : Script) (section : Section) (dealt : Dealt) : Type 0 where
  pub range : IsInRange script
  pub phase : IsPhase (header_of script) section
  pub steps_are : IsDealt script.clients section.steps dealt
