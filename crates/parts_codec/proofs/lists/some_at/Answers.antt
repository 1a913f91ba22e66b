use Rattle.std.proofs.Common.{◌+◌, ◌-◌, ap, ◌∙◌}
use Rattle.state_codec.specs.Reading.{with_front, times_at}
use Rattle.state_codec.proofs.Loops.{one_more, none_more, all_read}
use Rattle.parts_codec.proofs.lists.some_at.Goals as goal

pub returns-in-Err : goal.returns-in-Err
returns-in-Err g c = none_more c.in-Err.stop g.T.Spell.reading c.loop.list.items c.args.count c.loop.counter c.loop.rest.now (times_at g.T.Spell.reading c.args.count c.args.bytes.now) c.loop-test.true c.in-Err.ensures c.loop.invariant

pub loop-preserved : goal.loop-preserved
loop-preserved g c =
    let way = g.T.Spell.reading in
    let others = times_at way (c.args.count - (c.loop.counter + 1)) c.in-Ok.found.1.now in
    ap (λ items. with_front items others) c.in_ok-push.ensures.items
    ∙ one_more way c.loop.list.items c.in-Ok.found.0 c.args.count c.loop.counter c.loop.rest.now c.in-Ok.found.1.now (times_at way c.args.count c.args.bytes.now) c.loop-test.true c.in-Ok.ensures c.loop.invariant

pub returns : goal.returns
returns g c = all_read g.T.Spell.reading c.loop.list.items c.args.count c.loop.counter c.loop.rest.now (times_at g.T.Spell.reading c.args.count c.args.bytes.now) c.loop-test.false c.loop.invariant
