use Rattle.std.proofs.Common.{ap, sym, refl}
use Rattle.tally_core.specs.Places.{place}
use Rattle.tally_core.specs.Turn.{repaid}
use Rattle.tally_core.proofs.Parts.{stays_none}
use Rattle.tally_core.proofs.turn.raise_owed.Goals as goal

pub returns-in-None-clause-puts : goal.returns-in-None-clause-puts
returns-in-None-clause-puts g c =
    let owed = c.args.owed.now.entries in let none = sym c.in-None.ensures.value in
    stays_none owed owed (place c.args.name.now c.args.id.now) _ refl none (ap (repaid c.args.kept) none)
