use Rattle.std.proofs.Common.{map, refl, ap, ◌∙◌, subst}
use Rattle.dc_door.specs.Centres.{CentreTrail}
use Rattle.world_core.specs.Worlds.{WorldView, seen_of}
use Rattle.world_core.specs.Runs.{IsWorldBook}
use Rattle.world_core.proofs.Books.{world_book}
use Rattle.world_core.proofs.world.World.finish.Goals as goal

pub returns-clause-book : goal.returns-clause-book
returns-clause-book c =
    let inside = c.self.inside in
    let trails = c.in_ok-trails.ensures ∙ ap (map (λ (centre : CentreTrail). centre.entries)) c.part.ensures.centres in
    subst (λ (w : WorldView). IsWorldBook w (record { n = inside.script.now.n; k = inside.script.now.k; trails = c.in_ok-trails.trails; logs = c.from_vec.result })) c.self.view_is
    (world_book (seen_of inside.script.now inside.spent inside.table) _ refl refl trails c.from_vec.ensures (c.self.invariant c.if-self.false))
