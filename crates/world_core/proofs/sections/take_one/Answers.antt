use Rattle.std.proofs.Common.{◌+◌, ◌∷◌, [], sym, subst}
use Rattle.script_core.specs.Scripts.{header_of}
use Rattle.script_core.specs.Steps.{IsCount, IsStep, IsStepOf, IsOwn, IsOperatorStep}
use Rattle.dc_worker.proofs.Work.{on_turn}
use Rattle.run_book.specs.Moves.{step_move}
use Rattle.world_core.specs.Events.{TakesStep, TakesOrder}
use Rattle.world_core.specs.Runs.{MakesMoves}
use Rattle.world_core.proofs.Making.{client_makes, order_makes}
use Rattle.world_core.proofs.sections.take_one.Goals as goal

pub returns-in-Client : goal.returns-in-Client
returns-in-Client c =
    let client = c.in-Client.client in
    let step = c.in-Client.step in
    let old = c.args.world.now in
    let is : IsCount old.script.clients client × IsStep old.script.n step × IsOwn old.script.clients client step = subst (IsStepOf (header_of old.script)) c.in-Client.is c.requires.step in
    on_turn c.take.result (TakesStep (record { actor = client + 1; section = c.args.number; step = 1 }) step old c.take.new.self) (MakesMoves (step_move c.args.number c.args.step.now ∷ []) old c.take.new.self)
    (λ takes. subst (λ it. MakesMoves (step_move c.args.number it ∷ []) old c.take.new.self) (sym c.in-Client.is) (client_makes c.args.number 1 client step old c.take.new.self is.0 is.1 takes))
    c.take.ensures.takes

pub returns-in-Operator : goal.returns-in-Operator
returns-in-Operator c =
    let step = c.in-Operator.step in
    let old = c.args.world.now in
    let is : IsOperatorStep old.script.n step = subst (IsStepOf (header_of old.script)) c.in-Operator.is c.requires.step in
    on_turn c.order.result (TakesOrder (record { actor = 1; section = c.args.number; step = 1 }) step old c.order.new.self) (MakesMoves (step_move c.args.number c.args.step.now ∷ []) old c.order.new.self)
    (λ takes. subst (λ it. MakesMoves (step_move c.args.number it ∷ []) old c.order.new.self) (sym c.in-Operator.is) (order_makes c.args.number 1 step old c.order.new.self is takes))
    c.order.ensures.takes
