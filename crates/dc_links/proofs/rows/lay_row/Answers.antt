use Rattle.std.proofs.Common.{rules, arith, ◌≡◌, ◌<◌, ◌∷◌, [], length, length-append, get_or, set, ap, sym, subst}
use Rattle.dc_links.specs.Links.{rows_of}
use Rattle.dc_links.specs.Laying.{LaysRow}
use Rattle.dc_links.proofs.Laying.{laid_more}
use Rattle.dc_links.proofs.rows.lay_row.Goals as goal

pub receivers-preserved : goal.receivers-preserved
receivers-preserved c =
    let rows = c.receivers.takers.items in let k = c.receivers.before in let has = c.in_ok-lay_one.ensures in
    let same : c.from.result ≡ k = search rules in
    let lt : k < length rows = search rules in
    let is : c.index_mut.result.now ≡ get_or rows k c.index_mut.result.now = search rules in
    let one = length-append c.receivers.row.items (has.link ∷ []) in
    let long = ap length has.row in
    record {
      long = omega (arith, one, long, c.receivers.invariant.long);
      lays = subst (λ k. LaysRow c.lay_one.new.row.items c.lay_one.new.givers.items (rows_of c.args.takers.now.items) (rows_of (set rows k c.lay_one.new.takers))) (sym same)
          (laid_more c.receivers.row.items c.lay_one.new.row.items c.receivers.givers.items c.lay_one.new.givers.items (rows_of c.args.takers.now.items) rows k c.index_mut.result.now c.lay_one.new.takers c.receivers.invariant.long lt is has c.receivers.invariant.lays);
    }
