use Rattle.std.proofs.Common.{◌≡◌, subst, arith}
use Rattle.thread_run.proofs.Crews.{AreCrewsBefore, crews_begin, callers_left, givers_left, takers_left, inlets_left, crews_next, crews_made}
use Rattle.thread_run.proofs.casting.crews_of.Goals as goal

pub centres-init : goal.centres-init
centres-init c = crews_begin c.args.workers _ c.in_ok-crews.ensures.items

pub next_crew-requires-clause-callers : goal.next_crew-requires-clause-callers
next_crew-requires-clause-callers c = callers_left _ _ _ _ c.centres.invariant c.args.n c.centres-test.true c.requires.callers

pub next_crew-requires-clause-givers : goal.next_crew-requires-clause-givers
next_crew-requires-clause-givers c = givers_left _ _ _ _ c.centres.invariant c.args.n c.centres-test.true c.requires.givers

pub next_crew-requires-clause-takers : goal.next_crew-requires-clause-takers
next_crew-requires-clause-takers c = takers_left _ _ _ _ c.centres.invariant c.args.n c.centres-test.true c.requires.takers

pub next_crew-requires-clause-inlets : goal.next_crew-requires-clause-inlets
next_crew-requires-clause-inlets c = inlets_left _ _ _ _ c.centres.invariant c.args.n c.centres-test.true c.requires.inlets

pub centres-preserved : goal.centres-preserved
centres-preserved c =
    let next = c.next_crew.ensures in
    crews_next _ _ _ _ c.centres.invariant c.next_crew.result _ _ c.in_ok-push.ensures.items next.centre next.callers next.givers next.takers next.inlets

pub returns : goal.returns
returns c =
    let all : c.centres.before ≡ c.args.n = omega arith in
    let made : AreCrewsBefore c.args.n c.args.workers c.centres.left c.centres.crews.items = subst (λ before. AreCrewsBefore before c.args.workers c.centres.left c.centres.crews.items) all c.centres.invariant in
    crews_made _ _ _ _ made c.requires.callers c.requires.givers c.requires.takers c.requires.inlets
