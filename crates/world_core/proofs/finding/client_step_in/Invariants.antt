use Rattle.std.proofs.Common.{◌≡◌, drop}
use Rattle.std.specs.List.{filter_map}
use Rattle.run_book.specs.Moves.{client_step}
use Rattle.world_core.specs.Events.{numbered}
use Rattle.world_core.proofs.finding.client_step_in.Given as goal

abbrev pub invariant-steps : goal.invariant-steps
invariant-steps l = numbered (filter_map (client_step l.client) l.steps) l.number ≡ numbered (filter_map (client_step l.client) (drop l.step-index l.steps)) l.left
