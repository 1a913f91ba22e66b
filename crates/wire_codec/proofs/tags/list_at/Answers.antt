use Rattle.std.proofs.Common.{◌+◌, ◌-◌, Some, None, ap, ◌∙◌, rules}
use Rattle.wire_codec.specs.Reading.{tags_after_at, with_front}
use Rattle.wire_codec.proofs.Loops.{one_more, none_more, all_read, tag_read, tag_fails, no_tag}
use Rattle.wire_codec.proofs.tags.list_at.Goals as goal

pub returns-in_err-id : goal.returns-in_err-id
returns-in_err-id c =
    let stop = c.in_err-id.field-0.0 in
    let fails = tag_fails stop c.loop.last c.args.count c.loop.counter c.loop.rest.now c.loop-test.true c.in_err-id.ensures in
    let all = none_more stop c.loop.list.items (tags_after_at (c.args.count - c.loop.counter) c.loop.last c.loop.rest.now) (tags_after_at c.args.count None c.args.bytes.now) fails c.loop.invariant in
    search rules

pub loop-preserved : goal.loop-preserved
loop-preserved c =
    let id = tag_read c.loop.last c.args.count c.loop.counter c.loop.rest.now c.in_ok-id.behind.now c.in_ok-id.id c.loop-test.true c.in_ok-id.ensures in
    let others = tags_after_at (c.args.count - (c.loop.counter + 1)) (Some c.in_ok-id.id) c.in_ok-id.behind.now in
    ap (λ items. with_front items others) c.in_ok-push.ensures.items
    ∙ one_more c.loop.list.items c.in_ok-id.id (tags_after_at (c.args.count - c.loop.counter) c.loop.last c.loop.rest.now) others (tags_after_at c.args.count None c.args.bytes.now) id c.loop.invariant

pub returns : goal.returns
returns c = all_read c.loop.list.items c.loop.rest.now (tags_after_at (c.args.count - c.loop.counter) c.loop.last c.loop.rest.now) (tags_after_at c.args.count None c.args.bytes.now) (no_tag c.loop.last c.args.count c.loop.counter c.loop.rest.now c.loop-test.false) c.loop.invariant
