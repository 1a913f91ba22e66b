use Rattle.std.proofs.Common.{rules, arith, ◌≡◌, ◌<◌, ◌-◌, length, get_or, slice_get, Some, sym, ap, ◌∙◌, subst}
use Rattle.std.specs.Prelude.{slice_set}
use Rattle.std.specs.Global.{Vec}
use Rattle.std.proofs.lemmas.List.{length-map}
use Rattle.dc_talk.specs.Acting.{acting}
use Rattle.dc_talk.specs.declared.sent.Sent.{Sent}
use Rattle.mail_link.specs.Ends.{GiverView}
use Rattle.dc_links.specs.Links.{column_of, rows_of, put_between}
use Rattle.dc_links.specs.Rounds.{inward, DrainsFrom, StopsFrom}
use Rattle.dc_links.proofs.Places.{taker_link, takers_stay, givers_there, put_there}
use Rattle.dc_links.proofs.Taking.{drained_from, stops_from}
use Rattle.dc_links.proofs.drains.drain_over.Goals as goal

pub returns-in_err-drain_round-clause-ends : goal.returns-in_err-drain_round-clause-ends
returns-in_err-drain_round-clause-ends g c =
    let takers = c.args.takers.now.items in let link = c.between-link.result.now in let taker = c.index_mut-2.result.now in let place = c.from-place.result - 1 in
    let same : c.from-place.result ≡ c.args.from = search rules in
    let lt : place < length takers = search rules in
    let is : taker ≡ get_or takers place taker = search rules in
    let at : slice_get (column_of c.args.links.now c.args.to) place ≡ Some link = subst (λ from. slice_get (column_of c.args.links.now c.args.to) (from - 1) ≡ Some link) (sym same) c.between-link.ensures.column in
    takers_stay c.args.links.now link c.args.to place takers taker c.drain_round.new.taker c.requires.ends lt is (taker_link c.args.links.now link c.args.to place takers taker c.requires.ends lt is at) c.in_err-drain_round.ensures.link

pub returns-clause-ends : goal.returns-clause-ends
returns-clause-ends g c =
    let takers = c.args.takers.now.items in let link = c.between-link.result.now in let taker = c.index_mut-2.result.now in let place = c.from-place.result - 1 in
    let same : c.from-place.result ≡ c.args.from = search rules in
    let lt : place < length takers = search rules in
    let is : taker ≡ get_or takers place taker = search rules in
    let at : slice_get (column_of c.args.links.now c.args.to) place ≡ Some link = subst (λ from. slice_get (column_of c.args.links.now c.args.to) (from - 1) ≡ Some link) (sym same) c.between-link.ensures.column in
    takers_stay c.args.links.now link c.args.to place takers taker c.drain_round.new.taker c.requires.ends lt is (taker_link c.args.links.now link c.args.to place takers taker c.requires.ends lt is at) c.in_ok-drain_round.ensures.link

pub returns-clause-drains : goal.returns-clause-drains
returns-clause-drains g c =
    let takers = c.args.takers.now.items in let taker = c.index_mut-2.result.now in
    let inlets = c.args.inlets.now.items in let inlet = c.index_mut.result.now in
    let rows = c.args.givers.now in let row = c.index-givers-place.result in let giver = c.index-giver.result.now in
    let a = acting (g.D.Door.shown c.args.door.now) c.args.log.now in
    let b = acting (g.D.Door.shown c.drain_round.new.door) c.drain_round.new.log in
    let same : c.from-place.result ≡ c.args.from = search rules in
    let to : c.from.result ≡ c.args.to = search rules in
    let lt : c.args.from - 1 < length takers = search rules in
    let within : c.args.from - 1 < length inlets = search rules in
    let many = length-map rows (λ (row : Vec (GiverView Sent)). row.items) in
    let high : c.args.from - 1 < length rows = omega (arith, many, c.requires.givers.number, c.requires.row.0, c.requires.row.1) in
    let is : taker ≡ get_or takers (c.args.from - 1) taker = search rules in
    let there : inlet ≡ get_or inlets (c.args.from - 1) inlet = search rules in
    let sent : row ≡ get_or rows (c.args.from - 1) row = search rules in
    let long = (c.requires.givers.each c.args.from c.requires.row).number in
    let its = ap length (givers_there rows c.args.from row high sent) in
    let wide : c.args.to - 1 < length row.items = omega (arith, long, its, c.requires.column.0, c.requires.column.1) in
    let own : giver ≡ get_or row.items (c.args.to - 1) giver = search rules in
    let put : put_between (rows_of rows) c.args.from c.args.to ≡ giver.put = put_there rows c.args.from row high sent c.args.to giver wide own in
    subst (λ from. DrainsFrom c.args.from c.args.to (rows_of rows) (inward takers inlets) (inward (slice_set takers (from - 1) c.drain_round.new.taker) (slice_set inlets (from - 1) c.drain_round.new.inlet)) a b) (sym same)
    (drained_from c.args.from c.args.to _ (rows_of rows) takers taker c.drain_round.new.taker inlets inlet c.drain_round.new.inlet a b c.requires.row.0 lt within is there c.in_ok-drain_round.ensures.closes (c.in_ok-drain_round.ensures.all ∙ ap length (sym put)))

pub returns-in_err-drain_round-clause-stops : goal.returns-in_err-drain_round-clause-stops
returns-in_err-drain_round-clause-stops g c =
    let takers = c.args.takers.now.items in let taker = c.index_mut-2.result.now in
    let inlets = c.args.inlets.now.items in let inlet = c.index_mut.result.now in
    let a = acting (g.D.Door.shown c.args.door.now) c.args.log.now in
    let b = acting (g.D.Door.shown c.drain_round.new.door) c.drain_round.new.log in
    let same : c.from-place.result ≡ c.args.from = search rules in
    let lt : c.args.from - 1 < length takers = search rules in
    let within : c.args.from - 1 < length inlets = search rules in
    let is : taker ≡ get_or takers (c.args.from - 1) taker = search rules in
    let there : inlet ≡ get_or inlets (c.args.from - 1) inlet = search rules in
    let stops : StopsFrom c.args.from c.args.to (inward takers inlets) (inward (slice_set takers (c.from-place.result - 1) c.drain_round.new.taker) (slice_set inlets (c.from-place.result - 1) c.drain_round.new.inlet)) a b = subst (λ from. StopsFrom c.args.from c.args.to (inward takers inlets) (inward (slice_set takers (from - 1) c.drain_round.new.taker) (slice_set inlets (from - 1) c.drain_round.new.inlet)) a b) (sym same)
    (stops_from c.args.from c.args.to takers taker c.drain_round.new.taker inlets inlet c.drain_round.new.inlet a b c.requires.row.0 lt within is there c.in_err-drain_round.ensures.part) in
    search rules
