use Rattle.std.proofs.Common.{rules, ◌<◌, length, sym, ◌∙◌}
use Rattle.std.specs.Global.{Vec}
use Rattle.std.proofs.lemmas.List.{length-map}
use Rattle.dc_talk.specs.declared.sent.Sent.{Sent}
use Rattle.mail_link.specs.Ends.{TakerView}
use Rattle.dc_links.specs.Links.{rows_of}
use Rattle.dc_links.proofs.Closing.{next_is, next_left, row_number, row_takers, row_givers, rows_close, row_low}
use Rattle.dc_links.proofs.rows.close_rows.Goals as goal

pub close_row-requires-clause-number : goal.close_row-requires-clause-number
close_row-requires-clause-number g c =
    let rows = c.args.rows.items in let k = c.senders._before in
    let lt : k < length rows = search rules in
    let is = next_is rows c.senders.links.items k c.senders.invariant.links c.remove-row.result c.remove-row.ensures.value in
    sym (length-map c.senders.all.items (λ (row : Vec (TakerView Sent)). row.items)) ∙ row_number rows c.args.givers.items (rows_of c.args.takers.items) (rows_of c.senders.all.items) k c.requires.square c.requires.takers c.remove-row.result lt is c.senders.invariant.closes

pub close_row-requires-clause-givers : goal.close_row-requires-clause-givers
close_row-requires-clause-givers g c =
    let rows = c.args.rows.items in let givers = c.args.givers.items in let k = c.senders._before in
    let lt : k < length rows = search rules in
    let low = row_low rows givers k c.requires.givers lt in
    let is = next_is rows c.senders.links.items k c.senders.invariant.links c.remove-row.result c.remove-row.ensures.value in
    let at = next_is givers c.senders.own.items k c.senders.invariant.own c.remove-givers.result c.remove-givers.ensures.value in
    row_givers rows givers (rows_of c.args.takers.items) (rows_of c.senders.all.items) k c.requires.square c.requires.takers c.remove-row.result lt is c.senders.invariant.closes c.remove-givers.result low at c.requires.givers

pub close_row-requires-clause-takers : goal.close_row-requires-clause-takers
close_row-requires-clause-takers g c =
    let rows = c.args.rows.items in let k = c.senders._before in
    let lt : k < length rows = search rules in
    let is = next_is rows c.senders.links.items k c.senders.invariant.links c.remove-row.result c.remove-row.ensures.value in
    row_takers rows c.args.givers.items (rows_of c.args.takers.items) (rows_of c.senders.all.items) k c.requires.square c.requires.takers c.remove-row.result lt is c.senders.invariant.closes

pub senders-preserved : goal.senders-preserved
senders-preserved g c =
    let rows = c.args.rows.items in let givers = c.args.givers.items in let k = c.senders._before in
    let lt : k < length rows = search rules in
    let low = row_low rows givers k c.requires.givers lt in
    let is = next_is rows c.senders.links.items k c.senders.invariant.links c.remove-row.result c.remove-row.ensures.value in
    let at = next_is givers c.senders.own.items k c.senders.invariant.own c.remove-givers.result c.remove-givers.ensures.value in
    record {
      links = next_left rows c.senders.links.items k c.senders.invariant.links c.remove-row.new.self.items c.remove-row.ensures.items;
      own = next_left givers c.senders.own.items k c.senders.invariant.own c.remove-givers.new.self.items c.remove-givers.ensures.items;
      closes = rows_close rows givers (rows_of c.args.takers.items) (rows_of c.senders.all.items) k c.requires.square c.requires.takers c.remove-row.result lt is c.senders.invariant.closes c.remove-givers.result low at (rows_of c.close_row.new.takers.items) c.close_row.ensures;
    }
