use Rattle.std.proofs.Common.{ap, ◌∙◌, arith, set}
use Rattle.vv_core.proofs.Entrywise.{raised_by_set}
use Rattle.vv_core.proofs.entries.raise_entry.Goals as goal

pub returns : goal.returns
returns c =
    let v = c.args.into.now in
    let place = c.from-place.result in
    ap (set v place) c.max.ensures ∙ raised_by_set v c.args.stamp.now place (omega arith) (omega arith)
