use Rattle.std.proofs.Common.{sym, subst}
use Rattle.check_point.specs.Points.{PointView}
use Rattle.check_point.specs.PointParts.{ArePartsOf}
use Rattle.check_point.proofs.point.Point.parts.Goals as goal

pub returns-clause-only : goal.returns-clause-only
returns-clause-only c others are of =
    let own = subst (λ (p : PointView). ArePartsOf p others) (sym c.self.view_is) of in
    let numbers = c.in_ok-number_parts.ensures.only others.numbers are.clients own.numbers in
    let states = c.in_ok-state_parts.ensures.only others.states are.objects own.states in
    λ i. record { vector = own.vector i; folded = own.folded i; numbers = numbers i; states = states i }
