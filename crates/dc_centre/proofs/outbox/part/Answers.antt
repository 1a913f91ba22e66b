use Rattle.std.proofs.Common.{ap, sym, ◌∙◌, arith, get_or}
use Rattle.dc_talk.specs.declared.sent.Sent.{Sent}
use Rattle.dc_centre.proofs.ListParts.{part_more}
use Rattle.dc_centre.proofs.outbox.part.Goals as goal

pub loop-place-preserved : goal.loop-place-preserved
loop-place-preserved c =
    let xs = c.args.records.now.items in
    let place = c.loop-place.place in
    let next = c.in_ok-copy.ensures ∙ (c.index.ensures ∙ ap (λ (d : Sent). get_or xs place d) (sym c.in_ok-copy.ensures)) in
    let low = c.loop-place.auto.place in
    let test = c.loop-place-test.true in
    let least = c.min-count.ensures in
    let len = c.len-len.ensures in
    c.in_ok-push.ensures.items ∙ part_more xs c.loop-place.list.items c.if-after-len.start place c.in_ok-copy.field-0 low (omega (arith, low, test, least, len)) c.loop-place.invariant next
