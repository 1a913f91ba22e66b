use Rattle.std.proofs.Common.{rules, ◌≡◌, ◌<◌, ◌-◌, length, get_or, slice_get, Some, sym, subst}
use Rattle.std.specs.Prelude.{slice_set}
use Rattle.dc_talk.specs.Acting.{acting}
use Rattle.dc_links.specs.Links.{row_of}
use Rattle.dc_links.specs.Rounds.{SendsTo, PutsPart}
use Rattle.dc_links.proofs.Places.{giver_link, givers_stay}
use Rattle.dc_links.proofs.Sending.{sends_to, puts_part}
use Rattle.dc_links.proofs.sends.send_over.Goals as goal

pub returns-in_err-send_round-clause-ends : goal.returns-in_err-send_round-clause-ends
returns-in_err-send_round-clause-ends g c =
    let givers = c.args.givers.now.items in let link = c.between-link.result.now in let giver = c.index_mut.result.now in
    let same : c.from.result ≡ c.args.to = search rules in
    let lt : c.from.result - 1 < length givers = search rules in
    let is : giver ≡ get_or givers (c.from.result - 1) giver = search rules in
    let at : slice_get (row_of c.args.links.now c.args.from) (c.from.result - 1) ≡ Some link = subst (λ to. slice_get (row_of c.args.links.now c.args.from) (to - 1) ≡ Some link) (sym same) c.between-link.ensures.row in
    givers_stay c.args.links.now link c.args.from (c.from.result - 1) givers giver c.send_round.new.giver c.requires.ends lt is (giver_link c.args.links.now link c.args.from (c.from.result - 1) givers giver c.requires.ends lt is at) c.in_err-send_round.ensures.link

pub returns-clause-ends : goal.returns-clause-ends
returns-clause-ends g c =
    let givers = c.args.givers.now.items in let link = c.between-link.result.now in let giver = c.index_mut.result.now in
    let same : c.from.result ≡ c.args.to = search rules in
    let lt : c.from.result - 1 < length givers = search rules in
    let is : giver ≡ get_or givers (c.from.result - 1) giver = search rules in
    let at : slice_get (row_of c.args.links.now c.args.from) (c.from.result - 1) ≡ Some link = subst (λ to. slice_get (row_of c.args.links.now c.args.from) (to - 1) ≡ Some link) (sym same) c.between-link.ensures.row in
    givers_stay c.args.links.now link c.args.from (c.from.result - 1) givers giver c.send_round.new.giver c.requires.ends lt is (giver_link c.args.links.now link c.args.from (c.from.result - 1) givers giver c.requires.ends lt is at) c.in_ok-send_round.ensures.link

pub returns-clause-sends : goal.returns-clause-sends
returns-clause-sends g c =
    let givers = c.args.givers.now.items in let giver = c.index_mut.result.now in
    let a = acting (g.D.Door.shown c.args.door.now) c.args.log.now in
    let b = acting (g.D.Door.shown c.send_round.new.door) c.send_round.new.log in
    let same : c.from.result ≡ c.args.to = search rules in
    let lt : c.args.to - 1 < length givers = search rules in
    let is : giver ≡ get_or givers (c.args.to - 1) giver = search rules in
    subst (λ to. SendsTo c.args.from c.args.to givers (slice_set givers (to - 1) c.send_round.new.giver) a b) (sym same) (sends_to c.args.from c.args.to _ givers giver c.send_round.new.giver a b c.requires.column.0 lt is c.in_ok-send_round.ensures.posts)

pub returns-in_err-send_round-clause-stops : goal.returns-in_err-send_round-clause-stops
returns-in_err-send_round-clause-stops g c =
    let givers = c.args.givers.now.items in let giver = c.index_mut.result.now in
    let same : c.from.result ≡ c.args.to = search rules in
    let lt : c.args.to - 1 < length givers = search rules in
    let is : giver ≡ get_or givers (c.args.to - 1) giver = search rules in
    let stops : PutsPart c.args.to givers (slice_set givers (c.from.result - 1) c.send_round.new.giver) = subst (λ to. PutsPart c.args.to givers (slice_set givers (to - 1) c.send_round.new.giver)) (sym same) (puts_part c.args.to givers giver c.send_round.new.giver c.requires.column.0 lt is c.in_err-send_round.ensures.kept) in
    search rules
