use Rattle.std.proofs.Common.{sym, ◌∙◌, arith}
use Rattle.read_tap.proofs.Fronts.{alike_front, alike_more, read_at}
use Rattle.read_tap.proofs.shows.agree.Goals as goal

pub agrees-requires-clause-same : goal.agrees-requires-clause-same
agrees-requires-clause-same c =
    let place = c.places.place in
    let a = c.index-tokens-place.result in
    let b = c.index-all-place.result in
    let at_a = read_at c.args.tokens.now place a (omega arith) c.index-tokens-place.is in
    let at_b = read_at c.args.all.now place b (omega arith) c.index-all-place.is in
    (c.requires.tokens.each place a at_a).0 ∙ sym (c.requires.all.each place b at_b).0

pub places-preserved : goal.places-preserved
places-preserved c =
    let place = c.places.place in
    let a = c.index-tokens-place.result in
    let b = c.index-all-place.result in
    alike_more place c.args.tokens.now c.args.all.now a b c.places.invariant
    (read_at c.args.tokens.now place a (omega arith) c.index-tokens-place.is)
    (read_at c.args.all.now place b (omega arith) c.index-all-place.is)
    c.agrees.ensures

pub returns : goal.returns
returns c = alike_front c.args.tokens.now c.args.all.now (omega arith) (λ place a b lt. c.places.invariant place a b (omega (arith, lt)))
