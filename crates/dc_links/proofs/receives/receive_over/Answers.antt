use Rattle.std.proofs.Common.{rules, ◌≡◌, ◌<◌, ◌-◌, length, get_or, slice_get, Some, sym, subst}
use Rattle.std.specs.Prelude.{slice_set}
use Rattle.dc_talk.specs.Acting.{acting}
use Rattle.dc_links.specs.Links.{column_of}
use Rattle.dc_links.specs.Rounds.{inward, ReceivesFrom, StopsFrom}
use Rattle.dc_links.proofs.Places.{taker_link, takers_stay}
use Rattle.dc_links.proofs.Taking.{received_from, stops_from}
use Rattle.dc_links.proofs.receives.receive_over.Goals as goal

pub returns-in_err-take_round-clause-ends : goal.returns-in_err-take_round-clause-ends
returns-in_err-take_round-clause-ends g c =
    let takers = c.args.takers.now.items in let link = c.between-link.result.now in let taker = c.index_mut-2.result.now in let place = c.from-place.result - 1 in
    let same : c.from-place.result ≡ c.args.from = search rules in
    let lt : place < length takers = search rules in
    let is : taker ≡ get_or takers place taker = search rules in
    let at : slice_get (column_of c.args.links.now c.args.to) place ≡ Some link = subst (λ from. slice_get (column_of c.args.links.now c.args.to) (from - 1) ≡ Some link) (sym same) c.between-link.ensures.column in
    takers_stay c.args.links.now link c.args.to place takers taker c.take_round.new.taker c.requires.ends lt is (taker_link c.args.links.now link c.args.to place takers taker c.requires.ends lt is at) c.in_err-take_round.ensures.link

pub returns-clause-ends : goal.returns-clause-ends
returns-clause-ends g c =
    let takers = c.args.takers.now.items in let link = c.between-link.result.now in let taker = c.index_mut-2.result.now in let place = c.from-place.result - 1 in
    let same : c.from-place.result ≡ c.args.from = search rules in
    let lt : place < length takers = search rules in
    let is : taker ≡ get_or takers place taker = search rules in
    let at : slice_get (column_of c.args.links.now c.args.to) place ≡ Some link = subst (λ from. slice_get (column_of c.args.links.now c.args.to) (from - 1) ≡ Some link) (sym same) c.between-link.ensures.column in
    takers_stay c.args.links.now link c.args.to place takers taker c.take_round.new.taker c.requires.ends lt is (taker_link c.args.links.now link c.args.to place takers taker c.requires.ends lt is at) c.in_ok-take_round.ensures.link

pub returns-clause-receives : goal.returns-clause-receives
returns-clause-receives g c =
    let takers = c.args.takers.now.items in let taker = c.index_mut-2.result.now in
    let inlets = c.args.inlets.now.items in let inlet = c.index_mut.result.now in
    let a = acting (g.D.Door.shown c.args.door.now) c.args.log.now in
    let b = acting (g.D.Door.shown c.take_round.new.door) c.take_round.new.log in
    let same : c.from-place.result ≡ c.args.from = search rules in
    let lt : c.args.from - 1 < length takers = search rules in
    let within : c.args.from - 1 < length inlets = search rules in
    let is : taker ≡ get_or takers (c.args.from - 1) taker = search rules in
    let there : inlet ≡ get_or inlets (c.args.from - 1) inlet = search rules in
    subst (λ from. ReceivesFrom c.args.from c.args.to (inward takers inlets) (inward (slice_set takers (from - 1) c.take_round.new.taker) (slice_set inlets (from - 1) c.take_round.new.inlet)) a b) (sym same)
    (received_from c.args.from c.args.to _ takers taker c.take_round.new.taker inlets inlet c.take_round.new.inlet a b c.requires.row.0 lt within is there c.in_ok-take_round.ensures.receives c.in_ok-take_round.ensures.most)

pub returns-in_err-take_round-clause-stops : goal.returns-in_err-take_round-clause-stops
returns-in_err-take_round-clause-stops g c =
    let takers = c.args.takers.now.items in let taker = c.index_mut-2.result.now in
    let inlets = c.args.inlets.now.items in let inlet = c.index_mut.result.now in
    let a = acting (g.D.Door.shown c.args.door.now) c.args.log.now in
    let b = acting (g.D.Door.shown c.take_round.new.door) c.take_round.new.log in
    let same : c.from-place.result ≡ c.args.from = search rules in
    let lt : c.args.from - 1 < length takers = search rules in
    let within : c.args.from - 1 < length inlets = search rules in
    let is : taker ≡ get_or takers (c.args.from - 1) taker = search rules in
    let there : inlet ≡ get_or inlets (c.args.from - 1) inlet = search rules in
    let stops : StopsFrom c.args.from c.args.to (inward takers inlets) (inward (slice_set takers (c.from-place.result - 1) c.take_round.new.taker) (slice_set inlets (c.from-place.result - 1) c.take_round.new.inlet)) a b = subst (λ from. StopsFrom c.args.from c.args.to (inward takers inlets) (inward (slice_set takers (from - 1) c.take_round.new.taker) (slice_set inlets (from - 1) c.take_round.new.inlet)) a b) (sym same)
    (stops_from c.args.from c.args.to takers taker c.take_round.new.taker inlets inlet c.take_round.new.inlet a b c.requires.row.0 lt within is there c.in_err-take_round.ensures.part) in
    search rules
