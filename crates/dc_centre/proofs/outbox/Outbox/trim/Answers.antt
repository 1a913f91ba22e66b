use Rattle.std.proofs.Common.{◌≡◌, ◌<◌, ◌+◌, suc, length, subst, arith}
use Rattle.dc_centre.proofs.Rows.{HasTrimmedFirst, trimmed_none, trimmed_more, trimmed_all}
use Rattle.dc_centre.proofs.outbox.Outbox.trim.Goals as goal

pub origins-init : goal.origins-init
origins-init c = trimmed_none c.args.low.now c.args.high.now c.args.self.now.rows

pub origins-preserved : goal.origins-preserved
origins-preserved c =
    let place = c.origins.place in
    let few = c.origins-test.true in
    let most = c.requires.low in
    let many = c.trim_at.ensures.many in
    let long = c.origins.invariant.long in
    let within : place < length c.args.self.now.rows = omega (arith, few, most, many, long) in
    let next : suc place ≡ place + 1 = omega arith in
    subst (λ k. HasTrimmedFirst k c.args.low.now c.args.high.now c.args.self.now.rows c.trim_at.new.self.rows) next
    (trimmed_more place c.saturating_sub.result c.args.low.now c.args.high.now c.args.self.now.rows c.origins.self.rows c.trim_at.new.self.rows c.origins.invariant within c.saturating_sub.ensures c.trim_at.ensures.rows)

pub returns : goal.returns
returns c =
    let end = c.origins-test.false in
    let most = c.origins.auto.place-end in
    let same : c.origins.place ≡ length c.args.low.now = omega (arith, end, most) in
    trimmed_all (length c.args.low.now) c.args.low.now c.args.high.now c.args.self.now.rows c.origins.self.rows (subst (λ k. HasTrimmedFirst k c.args.low.now c.args.high.now c.args.self.now.rows c.origins.self.rows) same c.origins.invariant)
