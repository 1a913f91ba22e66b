use Rattle.std.proofs.Common.{rules, arith, ◌≡◌, ◌<◌, length, get_or, ap, sym, ◌∙◌}
use Rattle.std.proofs.lemmas.List.{length-map}
use Rattle.dc_talk.specs.declared.sent.Sent.{Sent}
use Rattle.mail_link.specs.Ends.{GiverView}
use Rattle.dc_links.proofs.Closing.{next_is, next_left, next_taker, closes_more}
use Rattle.dc_links.proofs.rows.close_row.Goals as goal

pub close_one-requires-clause-taker : goal.close_one-requires-clause-taker
close_one-requires-clause-taker g c =
    let row = c.args.row.items in let rows = c.receivers.takers.items in let k = c.receivers.place in
    let lt : k < length rows = search rules in
    let is : c.index_mut.result.now ≡ get_or rows k c.index_mut.result.now = search rules in
    let low : k < length row = search rules in
    next_taker row c.args.givers.items _ rows k c.index_mut.result.now lt is c.receivers.invariant.closes c.remove-link.result c.requires.takers low (next_is row c.receivers.links.items k c.receivers.invariant.links c.remove-link.result c.remove-link.ensures.value)

pub receivers-preserved : goal.receivers-preserved
receivers-preserved g c =
    let row = c.args.row.items in let givers = c.args.givers.items in let rows = c.receivers.takers.items in let k = c.receivers.place in
    let lt : k < length rows = search rules in
    let is : c.index_mut.result.now ≡ get_or rows k c.index_mut.result.now = search rules in
    let wide : k < length row = search rules in
    let many = sym (length-map givers (λ (giver : GiverView Sent). giver.link)) ∙ ap length c.requires.givers in
    let low : k < length givers = omega (arith, many, wide) in
    record {
      links = next_left row c.receivers.links.items k c.receivers.invariant.links c.remove-link.new.self.items c.remove-link.ensures.items;
      own = next_left givers c.receivers.own.items k c.receivers.invariant.own c.remove-giver.new.self.items c.remove-giver.ensures.items;
      closes = closes_more row givers _ rows k c.index_mut.result.now lt is c.receivers.invariant.closes c.close_one.new.takers c.remove-giver.result low (next_is givers c.receivers.own.items k c.receivers.invariant.own c.remove-giver.result c.remove-giver.ensures.value) c.close_one.ensures.rest c.close_one.ensures.more;
    }
