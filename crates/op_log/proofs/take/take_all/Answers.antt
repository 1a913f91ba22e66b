use Rattle.std.proofs.Common.{⊎_elim, ap, sym, ◌∙◌, subst, arith, length, ◌-◌}
use Rattle.std.specs.Map.{values_of}
use Rattle.std.proofs.lemmas.Bool.{cases_lt}
use Rattle.list_core.specs.Members.{In}
use Rattle.stamp_index.specs.Places.{reached_of}
use Rattle.op_log.proofs.Taking.{none_inside, all_left, reached_fewer, left_few, left_count}
use Rattle.op_log.proofs.take.take_all.Goals as goal

pub loop-centre-preserved : goal.loop-centre-preserved
loop-centre-preserved c = record {
  table = c.take_centre.ensures.table;
  left = c.take_centre.ensures.left ∙ c.loop-centre.invariant.left;
  none = λ centre lt p i. ⊎_elim
      (λ before. c.loop-centre.invariant.none centre before p (reached_fewer c.args.base.now centre c.loop-centre.places.keys c.take_centre.new.places.keys p c.take_centre.ensures.fewer i))
      (λ from. subst (λ l. In p l) c.take_centre.ensures.none (subst (λ e. In p (reached_of c.args.base.now e c.take_centre.new.places.keys)) (omega (arith, lt, from)) i))
      (cases_lt centre c.loop-centre.centre);
}

pub returns-clause-left : goal.returns-clause-left
returns-clause-left c =
    let w = c.args.base.now in
    let es = c.loop-centre.slots.entries in
    sym (all_left w es (none_inside w (values_of es) c.loop-centre.places.keys c.loop-centre.invariant.table.placed (λ centre small. c.loop-centre.invariant.none centre (let width = c.width-centre-end.ensures.width in let past = c.loop-centre-test.false in omega (arith, small, width, past)))))
    ∙ c.loop-centre.invariant.left

pub overflow_sub-result : goal.overflow_sub-result
overflow_sub-result c =
    let w = c.args.base.now in
    let es = c.loop-centre.slots.entries in
    let is = sym (all_left w es (none_inside w (values_of es) c.loop-centre.places.keys c.loop-centre.invariant.table.placed (λ centre small. c.loop-centre.invariant.none centre (let width = c.width-centre-end.ensures.width in let past = c.loop-centre-test.false in omega (arith, small, width, past))))) ∙ c.loop-centre.invariant.left in
    let few = left_few w c.args.slots.now.entries es is in
    omega (arith, few, c.len.ensures.len, c.len-before.ensures.len)

pub returns-clause-count : goal.returns-clause-count
returns-clause-count c =
    let w = c.args.base.now in
    let es = c.loop-centre.slots.entries in
    let is = sym (all_left w es (none_inside w (values_of es) c.loop-centre.places.keys c.loop-centre.invariant.table.placed (λ centre small. c.loop-centre.invariant.none centre (let width = c.width-centre-end.ensures.width in let past = c.loop-centre-test.false in omega (arith, small, width, past))))) ∙ c.loop-centre.invariant.left in
    ap (λ n. n - c.len.result) c.len-before.ensures.len ∙ ap (λ n. length c.args.slots.now.entries - n) c.len.ensures.len ∙ left_count w c.args.slots.now.entries es is
