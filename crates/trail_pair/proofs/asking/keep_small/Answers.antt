use Rattle.std.proofs.Common.{Ok, ap}
use Rattle.pair_centre.specs.States.{IsPairFileOf}
use Rattle.pair_centre.specs.Open.{settings_of}
use Rattle.trail_pair.proofs.Groups.{kept_by, small_undue, small_by}
use Rattle.trail_pair.proofs.asking.keep_small.Goals as goal

pub returns-in-Ok-clause-stands : goal.returns-in-Ok-clause-stands
returns-in-Ok-clause-stands g c = λ front has.
    kept_by g.D.Disk.stands c.args.pair.now c.compact.new.self (IsPairFileOf (settings_of c.args.pair.now)) front c.in-Ok.field-0
    (λ is. c.in-Ok.ensures.done (ap Ok is)) (λ is. c.in-Ok.ensures.unfit (ap Ok is)) has

pub returns-in-Ok-clause-small : goal.returns-in-Ok-clause-small
returns-in-Ok-clause-small g c = λ front has.
    small_by g.D.Disk.stands c.args.pair.now c.compact.new.self front c.in-Ok.field-0
    (λ is. c.in-Ok.ensures.small (ap Ok is)) (λ is. c.in-Ok.ensures.unfit_by (ap Ok is)) (λ is. c.in-Ok.ensures.unfit (ap Ok is)) has
