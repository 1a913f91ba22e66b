use Rattle.std.proofs.Common.{◌+◌, ◌-◌, Ok, sym, ap, ◌∙◌}
use Rattle.wire_codec.specs.Reading.{updates_at, with_front}
use Rattle.wire_codec.proofs.Loops.{one_more, none_more, all_read, update_read, update_fails, no_update}
use Rattle.wire_codec.proofs.ops.updates_at.Goals as goal

pub returns-in-Err : goal.returns-in-Err
returns-in-Err c =
    let fails = update_fails c.in-Err.stop c.args.count c.loop.counter c.loop.rest.now c.loop-test.true c.in-Err.ensures in
    none_more c.in-Err.stop c.loop.list.items (updates_at (c.args.count - c.loop.counter) c.loop.rest.now) (updates_at c.args.count c.args.bytes.now) fails c.loop.invariant

pub loop-preserved : goal.loop-preserved
loop-preserved c =
    let update = update_read c.args.count c.loop.counter c.loop.rest.now c.in-Ok.found.1.now c.in-Ok.found.0 c.loop-test.true c.in-Ok.ensures in
    let others = updates_at (c.args.count - (c.loop.counter + 1)) c.in-Ok.found.1.now in
    ap (λ items. with_front items others) c.in_ok-push.ensures.items
    ∙ one_more c.loop.list.items c.in-Ok.found.0 (updates_at (c.args.count - c.loop.counter) c.loop.rest.now) others (updates_at c.args.count c.args.bytes.now) update c.loop.invariant

pub returns : goal.returns
returns c =
    let list = all_read c.loop.list.items c.loop.rest.now (updates_at (c.args.count - c.loop.counter) c.loop.rest.now) (updates_at c.args.count c.args.bytes.now) (no_update c.args.count c.loop.counter c.loop.rest.now c.loop-test.false) c.loop.invariant in
    list ∙ ap (λ updates. Ok (updates, c.loop.rest.now)) (sym c.from_vec.ensures)
