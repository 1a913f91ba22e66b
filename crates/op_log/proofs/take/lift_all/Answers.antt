use Rattle.std.proofs.Common.{take, get_or, ◌∙◌, subst}
use Rattle.std.proofs.lemmas.List.{take_more}
use Rattle.list_core.specs.Members.{In}
use Rattle.vv_core.specs.declared.stamp.Stamp.{Stamp}
use Rattle.op_log.proofs.Placed.{lifted_apart, lifted_fewer, lifted_more}
use Rattle.op_log.proofs.take.lift_all.Goals as goal

pub loop-stamp-preserved : goal.loop-stamp-preserved
loop-stamp-preserved c =
    let stamps = c.args.stamps.now in
    let i = c.loop-stamp.stamp-index in
    let none : Stamp = record { centre = 0; seq = 0 } in
    let s = get_or stamps i none in
    let ps = c.loop-stamp.places.keys in
    let qs = c.lift.new.places.keys in
    record {
      apart = λ p other. lifted_apart c.args.number s ps qs c.lift.ensures p other ∙ c.loop-stamp.invariant.apart p other;
      gone = λ t j. lifted_more c.args.number s ps qs c.lift.ensures (take i stamps) c.loop-stamp.invariant.gone t (subst (λ l. In t l) (take_more stamps i none c.loop-stamp-test.true) j);
      fewer = λ p there. c.loop-stamp.invariant.fewer p (lifted_fewer c.args.number s ps qs c.lift.ensures p there);
    }
