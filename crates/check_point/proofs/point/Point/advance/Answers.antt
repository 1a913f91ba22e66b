use Rattle.std.proofs.Common.{sym, ap, subst, ◌∙◌}
use Rattle.std.specs.Option.{unwrap_or}
use Rattle.tx_core.specs.States.{empty_of}
use Rattle.check_point.specs.Operations.{is_touched}
use Rattle.check_point.specs.Points.{IsPointOf, state_over, number_over}
use Rattle.check_point.proofs.Advancing.{given_more, put_known}
use Rattle.check_point.proofs.point.Point.advance.Goals as goal

pub returns-clause-more : goal.returns-clause-more
returns-clause-more c given is =
    given_more _ _ given c.args.txs.now (subst (λ p. IsPointOf p given) (sym c.self.view_is) is)
    (λ o. ap (λ s. unwrap_or s (empty_of o.sort)) (c.put_over.ensures o) ∙ (ap (λ es. state_over c.in_ok-changed.changed.entries es o) c.reserve.ensures.entries ∙ c.in_ok-changed.ensures.states o))
    (λ client. ap (λ n. unwrap_or n 0) (c.put_over-2.ensures client) ∙ (ap (λ es. number_over c.in_ok-raised.raised.entries es client) c.reserve-2.ensures.entries ∙ c.in_ok-raised.ensures client))
    c.in-Some.ensures.1
    (λ o. put_known _ c.in_ok-changed.changed.entries _ _ o (is_touched o c.args.txs.now) (c.put_over.ensures o) c.reserve.ensures.entries (c.in_ok-changed.ensures.known o))
