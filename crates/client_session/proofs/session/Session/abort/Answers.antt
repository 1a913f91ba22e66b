use Rattle.std.proofs.Common.{sym}
use Rattle.client_session.proofs.Standing.{aborted}
use Rattle.client_session.proofs.session.Session.abort.Goals as goal

pub invariant_of-self-in-Some : goal.invariant_of-self-in-Some
invariant_of-self-in-Some c = rw c.take.ensures.after (aborted _ c.in-Some.updates c.self.inside.folded.entries _ c.self.inside.past c.leave_all.new.past (sym c.in-Some.ensures.value) c.self.invariant (rw c.as_slice.ensures at c.let_all_go.ensures) c.leave_all.ensures.vector c.leave_all.ensures.passed (rw c.as_slice-in-Some.ensures at c.leave_all.ensures.left))

pub invariant_of-self-in-Some-2 : goal.invariant_of-self-in-Some-2
invariant_of-self-in-Some-2 c = rw c.take.ensures.after (aborted _ c.in-Some.updates c.self.inside.folded.entries _ c.self.inside.past c.leave_all.new.past (sym c.in-Some.ensures.value) c.self.invariant (rw c.as_slice.ensures at c.let_all_go.ensures) c.leave_all.ensures.vector c.leave_all.ensures.passed (rw c.as_slice-in-Some.ensures at c.leave_all.ensures.left))
