use Rattle.std.proofs.Common.{ap, ◌∙◌, subst}
use Rattle.script_core.specs.Steps.{IsCount, IsStep}
use Rattle.world_core.specs.Worlds.{WorldView, seen_of}
use Rattle.world_core.specs.Runs.{IsSound}
use Rattle.world_core.proofs.Naming.{client_named}
use Rattle.world_core.proofs.world.World.play_client.Goals as goal

pub take-requires-clause-client : goal.take-requires-clause-client
take-requires-clause-client c =
    let inside = c.self.inside in
    let sound : IsSound (seen_of inside.script.now inside.spent inside.table) = c.self.invariant (ap (λ (w : WorldView). w.spent) c.self.view_is ∙ c.requires) in
    subst (λ (w : WorldView). IsCount w.script.clients c.args.client) c.self.view_is (client_named inside.script.now sound.range.sections c.args.client c.args.section c.args.step c.in-Some.does c.in-Some.ensures).0

pub take-requires-clause-fits : goal.take-requires-clause-fits
take-requires-clause-fits c =
    let inside = c.self.inside in
    let sound : IsSound (seen_of inside.script.now inside.spent inside.table) = c.self.invariant (ap (λ (w : WorldView). w.spent) c.self.view_is ∙ c.requires) in
    subst (λ (w : WorldView). IsStep w.script.n c.in-Some.does) c.self.view_is (client_named inside.script.now sound.range.sections c.args.client c.args.section c.args.step c.in-Some.does c.in-Some.ensures).1
