use Rattle.std.proofs.Common.{◌∙◌}
use Rattle.run_book.specs.Parts.{idle_log}
use Rattle.run_table.proofs.Numbered.{more_below}
use Rattle.run_table.proofs.table.logs_of.Goals as goal

pub actors-preserved : goal.actors-preserved
actors-preserved c = c.in_ok-push.ensures.items ∙ more_below idle_log c.actors.actor c.actors.logs.items c.new.result c.actors.auto.actor c.actors.invariant c.new.ensures
