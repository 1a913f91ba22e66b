use Rattle.std.proofs.Common.{◌≡◌, drop}
use Rattle.std.specs.List.{filter_map}
use Rattle.run_book.specs.Moves.{operator_step}
use Rattle.world_core.specs.Events.{numbered}
use Rattle.world_core.proofs.finding.operator_step_in.Given as goal

abbrev pub invariant-steps : goal.invariant-steps
invariant-steps l = numbered (filter_map operator_step l.steps) l.number ≡ numbered (filter_map operator_step (drop l.step-index l.steps)) l.left
