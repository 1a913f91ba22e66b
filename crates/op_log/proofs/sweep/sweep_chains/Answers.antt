use Rattle.std.proofs.Common.{⊎_elim, subst, arith}
use Rattle.std.specs.Map.{values_of}
use Rattle.std.proofs.lemmas.Bool.{cases_lt}
use Rattle.list_core.specs.Members.{In}
use Rattle.stamp_index.specs.Places.{reached_of}
use Rattle.op_log.proofs.Sweeping.{all_swept}
use Rattle.op_log.proofs.sweep.sweep_chains.Goals as goal

pub loop-centre-preserved : goal.loop-centre-preserved
loop-centre-preserved c = record {
  may = c.sweep_centre.ensures.may;
  swept = λ centre lt p i x there same u j. ⊎_elim
      (λ before. c.sweep_centre.ensures.kept u.object (c.loop-centre.invariant.swept centre before p i x there same u j))
      (λ from. c.sweep_centre.ensures.swept p (subst (λ e. In p (reached_of c.args.base.now e c.args.places.now.keys)) (omega (arith, lt, from)) i) x there same u j)
      (cases_lt centre c.loop-centre.centre);
}

pub returns : goal.returns
returns c = all_swept c.args.base.now (values_of c.args.slots.now.entries) c.args.places.now.keys c.loop-centre.chains c.requires.placed c.loop-centre.invariant.may (λ centre small. c.loop-centre.invariant.swept centre (let width = c.width-centre-end.ensures.width in let past = c.loop-centre-test.false in omega (arith, small, width, past)))
