use Rattle.std.proofs.Common.{◌≡◌, ◌<◌, ◌+◌, ◌-◌, Option, Some, None, length, subst, drop, rules, arith}
use Rattle.std.specs.List.{filter_map}
use Rattle.script_core.specs.declared.steps.ClientStep.{ClientStep}
use Rattle.run_book.specs.Moves.{client_step}
use Rattle.world_core.specs.Events.{numbered}
use Rattle.world_core.proofs.Naming.{passed_over, counted_one}
use Rattle.world_core.proofs.finding.client_step_in.Goals as goal
use Rattle.world_core.proofs.finding.client_step_in.Goals.{in-Some+else-left-eq1, in_default}

pub steps-preserved : goal.steps-preserved
steps-preserved c =
    let whole : Option ClientStep = numbered (filter_map (client_step c.args.client) c.args.steps.now) c.args.number in
    let within : c.steps.step-index < length c.args.steps.now = omega arith in
    elim c.match-client_step.branch [
      | in-Some+else-left-eq1 w ↦
          let some : client_step c.args.client c.step-item.result ≡ Some w.in-Some.does = cc in
          let left : c.steps.left - 1 ≡ c.match-client_step.left = omega arith in
          subst (λ left. whole ≡ numbered (filter_map (client_step c.args.client) (drop (c.steps.step-index + 1) c.args.steps.now)) left) left
          (counted_one (client_step c.args.client) c.args.steps.now c.steps.step-index c.steps.left c.step-item.result within c.step-item.is whole w.in-Some.does some w.if-left-eq1.false c.steps.invariant)
      | in_default w ↦
          let none : client_step c.args.client c.step-item.result ≡ None = search rules in
          let left : c.steps.left ≡ c.match-client_step.left = omega arith in
          subst (λ left. whole ≡ numbered (filter_map (client_step c.args.client) (drop (c.steps.step-index + 1) c.args.steps.now)) left) left
          (passed_over (client_step c.args.client) c.args.steps.now c.steps.step-index c.steps.left c.step-item.result within c.step-item.is whole none c.steps.invariant)
    ]
