use Rattle.std.proofs.Common.{◌≡◌, ◌-◌, Some, sym, ap, ◌∙◌}
use Rattle.std.specs.Prelude.{slice_get}
use Rattle.script_core.specs.Scripts.{header_of}
use Rattle.script_core.specs.Steps.{IsOperatorStep}
use Rattle.dc_worker.proofs.Work.{on_turn}
use Rattle.run_book.specs.Moves.{operator_steps, operator_turn, one_or_none}
use Rattle.world_core.specs.Events.{TakesOrder}
use Rattle.world_core.specs.Runs.{MakesMoves}
use Rattle.world_core.proofs.Making.{order_makes}
use Rattle.run_table.proofs.Allowing.{operator_step_in}
use Rattle.world_core.proofs.Phasing.{operator_took}
use Rattle.world_core.proofs.phases.play_operator.Goals as goal

pub order-requires-clause-fits : goal.order-requires-clause-fits
order-requires-clause-fits c =
    let there : slice_get (operator_steps c.args.section.now) (c.args.turn - 1) ≡ Some c.in-Some.step = sym (c.in-Some.ensures ∙ ap (λ line. slice_get line (c.args.turn - 1)) c.requires.phase.steps_are.operator) in
    operator_step_in (header_of c.args.world.now.script) c.args.section.now c.requires.phase.phase (c.args.turn - 1) c.in-Some.step there

pub returns-in-Some : goal.returns-in-Some
returns-in-Some c =
    let old = c.args.world.now in
    let there : slice_get (operator_steps c.args.section.now) (c.args.turn - 1) ≡ Some c.in-Some.step = sym (c.in-Some.ensures ∙ ap (λ line. slice_get line (c.args.turn - 1)) c.requires.phase.steps_are.operator) in
    let fits : IsOperatorStep old.script.n c.in-Some.step = operator_step_in (header_of old.script) c.args.section.now c.requires.phase.phase (c.args.turn - 1) c.in-Some.step there in
    on_turn c.order.result (TakesOrder (record { actor = 1; section = c.args.number; step = c.args.turn }) c.in-Some.step old c.order.new.self) (MakesMoves (one_or_none (operator_turn c.args.number c.args.section.now c.args.turn)) old c.order.new.self)
    (λ takes. operator_took old.script.clients c.args.section.now c.args.dealt.now c.requires.phase.steps_are c.args.number c.args.turn c.in-Some.step old c.order.new.self c.in-Some.ensures (order_makes c.args.number c.args.turn c.in-Some.step old c.order.new.self fits takes))
    c.order.ensures.takes
