use Rattle.std.proofs.Common.{ap, ◌∙◌, subst}
use Rattle.std.specs.Prelude.{not, filter}
use Rattle.std.specs.Map.{values_of}
use Rattle.list_core.specs.Members.{In}
use Rattle.op_log.specs.Logs.{is_inside}
use Rattle.stamp_index.specs.Places.{is_reached}
use Rattle.op_log.proofs.Reaching.{inside_reached}
use Rattle.op_log.proofs.Taking.{kept_less, member_at}
use Rattle.op_log.proofs.take.take_centre.Goals as goal

pub take_one-requires-clause-there : goal.take_one-requires-clause-there
take_one-requires-clause-there c =
    let p = c.in-Some.place in
    let places = c.loop-place.places.keys in
    let f = inside_reached c.args.base.now (values_of c.loop-place.slots.entries) places c.args.centre p c.loop-place.invariant.table.placed (subst (λ seq. In p (filter (is_reached c.args.centre seq) places)) c.entry-seq.ensures c.in-Some.ensures.some) in
    (f.0, f.1, f.2)

pub loop-place-preserved : goal.loop-place-preserved
loop-place-preserved c =
    let p = c.in-Some.place in
    let places = c.loop-place.places.keys in
    let es = c.loop-place.slots.entries in
    let table = c.loop-place.invariant.table in
    let f = inside_reached c.args.base.now (values_of es) places c.args.centre p table.placed (subst (λ seq. In p (filter (is_reached c.args.centre seq) places)) c.entry-seq.ensures c.in-Some.ensures.some) in
    record {
      table = c.take_one.ensures.table;
      left = ap (filter (λ e. not (is_inside c.args.base.now e.1))) c.take_one.ensures.rest ∙ kept_less p.number (λ x. not (is_inside c.args.base.now x)) es f.0 (member_at p.number es f.0 table.keyed table.rises f.1 f.2) (ap not f.3) ∙ c.loop-place.invariant.left;
      fewer = λ q is. c.loop-place.invariant.fewer q (c.take_one.ensures.fewer q is);
    }
