-- The sections of a script: each step is one, but for those of a phase, which are one together.
use Rattle.std.specs.Prelude.{◌≡◌, ◌≤◌, ◌⊎◌, Bool, true, false, IsTrue, All, length, List, [], ◌∷◌}
use Rattle.script_core.specs.Steps.{IsStepOf}
use Rattle.script_core.specs.declared.limits.TheConstants.{MAX_LINES}
use Rattle.script_core.specs.declared.script.Header.{Header}
use Rattle.script_core.specs.declared.steps.OperatorStep.{OperatorStep}
use Rattle.script_core.specs.declared.steps.OperatorStep.TheVariants.{Link, Settle}
use Rattle.script_core.specs.declared.steps.Step.{Step}
use Rattle.script_core.specs.declared.steps.Step.TheVariants.{Client, Operator}
use Rattle.script_core.specs.declared.steps.Section.{Section}

-- a step as a section of its own
abbrev pub section_of : Step → Section
section_of step = record { phase = false; steps = step ∷ [] }

-- steps as a phase
abbrev pub phase_of : List Step → Section
phase_of steps = record { phase = true; steps = steps }

-- a section that is one step, of a script with this header
abbrev pub IsLine : Header → Section → Type 0
IsLine header section = (step : Step) × (section ≡ section_of step) × IsStepOf header step

-- whether a step of the operator may stand in a phase: it settles nothing, and sets no link
abbrev pub may_order_in_phase : OperatorStep → Bool
may_order_in_phase (Link from to fault) = false
may_order_in_phase Settle = false
may_order_in_phase step = true

-- whether a step may stand in a phase: each one of a client may
abbrev pub may_do_in_phase : Step → Bool
may_do_in_phase (Client client step) = true
may_do_in_phase (Operator step) = may_order_in_phase step

-- it may
abbrev pub IsInPhase : Step → Type 0
IsInPhase step = IsTrue (may_do_in_phase step)

-- a phase, of a script with this header
pub record IsPhase (header : Header) (section : Section) : Type 0 where
  pub phase : section.phase ≡ true
  pub steps : All (λ step. IsStepOf header step × IsInPhase step) section.steps
  pub few : length section.steps ≤ MAX_LINES

-- a section: one step, or a phase
abbrev pub IsSection : Header → Section → Type 0
IsSection header section = IsLine header section ⊎ IsPhase header section
