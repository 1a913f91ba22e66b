use Rattle.std.proofs.Common.{◌∙◌}
use Rattle.script_core.specs.Taps.{first_tap}
use Rattle.run_table.proofs.Numbered.{more_below}
use Rattle.run_table.proofs.opening.first_taps.Goals as goal

pub centres-preserved : goal.centres-preserved
centres-preserved c =
    c.in_ok-push.ensures.items
    ∙ more_below (first_tap c.args.n c.args.taps.now) c.centres.centre c.centres.all.items c.in_ok-first_tap.field-0 c.centres.auto.centre c.centres.invariant c.in_ok-first_tap.ensures
