use Rattle.std.proofs.Common.{◌≡◌, List, length, sym, ap, ◌∙◌, arith}
use Rattle.std.proofs.lemmas.List.FromFn.{length-map-range_with_len}
use Rattle.std.proofs.lemmas.List.{length-map}
use Rattle.dc_door.specs.Centres.{CentreTrail, seen_of, new_centre}
use Rattle.run_table.proofs.table.Table.new.Goals as goal

pub new-requires-clause-number : goal.new-requires-clause-number
new-requires-clause-number c =
    let script = c.args.script.now in
    let count : length c.in_ok-centres.centres.items ≡ script.n = sym (length-map c.in_ok-centres.centres.items seen_of) ∙ (ap (λ (centres : List CentreTrail). length centres) c.in_ok-centres.ensures.centres ∙ length-map-range_with_len (new_centre script.n script.k script.limit) 1 script.n) in
    (omega (arith, count, c.requires.header.n), omega (arith, count, c.requires.header.n))
