use Rattle.std.proofs.Common.{true, subst}
use Rattle.world_core.specs.Worlds.{WorldView, seen_of}
use Rattle.world_core.specs.Events.{AsksOncePart}
use Rattle.world_core.proofs.Outside.{late_may}
use Rattle.world_core.proofs.Parts.{ask_none}
use Rattle.world_core.proofs.world.World.play_again.Goals as goal

pub ask_once-requires-clause-may : goal.ask_once-requires-clause-may
ask_once-requires-clause-may c = late_may c.args.self.now c.args.client c.args.note c.args.centre c.in-Ok-Some.ask (rw c.in-Ok-Some.field-0-is at c.in-Ok-Some.ensures)

pub returns-in-Err-clause-part : goal.returns-in-Err-clause-part
returns-in-Err-clause-part c =
    let inside = c.self.inside in
    subst (λ (old : WorldView). AsksOncePart c.args.centre old (seen_of inside.script.now true inside.table)) c.self.view_is (ask_none inside.script.now inside.spent true c.args.centre inside.table c.histories.ensures)
