use Rattle.client_session.proofs.Held.{wide_only}
use Rattle.client_session.proofs.session.Session.fetch_of.Goals as goal

pub is_before-requires : goal.is_before-requires
is_before-requires c = wide_only _ _ _ c.self.invariant.0 c.in-Some.ensures.some
