use Rattle.std.proofs.Common.{take, subst}
use Rattle.list_core.specs.Members.{In}
use Rattle.vv_core.specs.Vectors.{Covers}
use Rattle.point_log.specs.Served.{IsServed}
use Rattle.point_log.proofs.Serving.{inside_later, gone_served, kept_found}
use Rattle.point_log.proofs.served.served_on.Goals as goal

pub gone_on-requires-clause-first : goal.gone_on-requires-clause-first
gone_on-requires-clause-first c d i =
    let s = c.in-Some.served in
    let is = kept_found (IsServed c.args.point.now c.args.log.now c.args.object.now) c.args.found s c.in-Some.is c.requires.found in
    let later = kept_found (λ s. Covers c.args.at.now s.at) c.args.found s c.in-Some.is c.requires.later in
    inside_later c.args.at.now s.at d.tx c.args.log.now.items later (is.first d (subst (λ l. In d (take s.done l)) c.chain.ensures i))

pub returns-in-Some-clause-served : goal.returns-in-Some-clause-served
returns-in-Some-clause-served c =
    let s = c.in-Some.served in
    let is = kept_found (IsServed c.args.point.now c.args.log.now c.args.object.now) c.args.found s c.in-Some.is c.requires.found in
    let later = kept_found (λ s. Covers c.args.at.now s.at) c.args.found s c.in-Some.is c.requires.later in
    let e = c.gone_on.ensures in
    gone_served c.gone_on.result c.args.point.now c.args.log.now c.args.object.now s c.args.at.now c.chain.result.now c.requires.well c.chain.ensures is later c.requires.wide e.state e.at e.few e.first
