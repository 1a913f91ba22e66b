use Rattle.std.proofs.Common.{ap, ◌∙◌, subst}
use Rattle.script_core.specs.Steps.{IsOperatorStep}
use Rattle.world_core.specs.Worlds.{WorldView, seen_of}
use Rattle.world_core.specs.Runs.{IsSound}
use Rattle.world_core.proofs.Naming.{operator_named}
use Rattle.world_core.proofs.world.World.play_operator.Goals as goal

pub order-requires-clause-fits : goal.order-requires-clause-fits
order-requires-clause-fits c =
    let inside = c.self.inside in
    let sound : IsSound (seen_of inside.script.now inside.spent inside.table) = c.self.invariant (ap (λ (w : WorldView). w.spent) c.self.view_is ∙ c.requires) in
    subst (λ (w : WorldView). IsOperatorStep w.script.n c.in-Some.does) c.self.view_is (operator_named inside.script.now sound.range.sections c.args.section c.args.step c.in-Some.does c.in-Some.ensures)
