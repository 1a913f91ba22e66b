use Rattle.std.proofs.Common.{sym, ap, ◌∙◌, subst}
use Rattle.std.specs.Map.{values_of, set_value}
use Rattle.std.specs.BTreeMap.{is_at}
use Rattle.std.specs.Ordering.{nat_cmp}
use Rattle.std.proofs.lemmas.Result.{IfOk-weaker, on_ok_weaker, on_err_weaker}
use Rattle.std.proofs.lemmas.Map.Steps.{set_value_same}
use Rattle.op_log.specs.Tables.{IsKeyed}
use Rattle.op_log.proofs.Numbers.{found_at, keyed_set, has_dot_some, stamped_some, has_dot_none, stamped_none}
use Rattle.op_log.proofs.slots.add_at.Goals as goal

pub returns-in-Some-clause-found : goal.returns-in-Some-clause-found
returns-in-Some-clause-found c =
    let there = sym c.in-Some.ensures.value in
    IfOk-weaker c.add_if.result _ _ (λ found is. is ∙ has_dot_some c.args.dot.now c.args.number _ _ c.requires.keyed c.requires.rises c.requires.one there) c.add_if.ensures.found

pub returns-in-Some-clause-ok : goal.returns-in-Some-clause-ok
returns-in-Some-clause-ok c =
    let there = sym c.in-Some.ensures.value in
    let t = c.get_mut.follows.holds c.add_if.new.self in
    on_ok_weaker c.add_if.result (λ e. ap values_of (t.0 ∙ ap (set_value (is_at (nat_cmp c.args.number)) c.args.slots.now.entries) e) ∙ stamped_some c.args.dot.now c.args.stamp.now c.args.number _ _ c.requires.keyed c.requires.rises c.requires.one there) c.add_if.ensures.ok

pub returns-in-Some-clause-err : goal.returns-in-Some-clause-err
returns-in-Some-clause-err c =
    let there = sym c.in-Some.ensures.value in
    let t = c.get_mut.follows.holds c.add_if.new.self in
    on_err_weaker c.add_if.result (λ e. t.0 ∙ ap (set_value (is_at (nat_cmp c.args.number)) c.args.slots.now.entries) e ∙ set_value_same _ _ _ there) c.add_if.ensures.err

pub returns-in-Some-clause-keyed : goal.returns-in-Some-clause-keyed
returns-in-Some-clause-keyed c =
    let there = sym c.in-Some.ensures.value in
    let t = c.get_mut.follows.holds c.add_if.new.self in
    let number = (found_at c.args.number c.args.slots.now.entries _ c.requires.keyed there).1 in
    subst IsKeyed (sym t.0) (keyed_set c.args.number _ _ c.requires.keyed (c.add_if.ensures.number ∙ number))

pub returns-in-None-clause-found : goal.returns-in-None-clause-found
returns-in-None-clause-found c = has_dot_none c.args.dot.now c.args.number _ c.requires.keyed c.requires.one (sym c.in-None.ensures.value)

pub returns-in-None-clause-ok : goal.returns-in-None-clause-ok
returns-in-None-clause-ok c =
    ap (λ m. values_of m.entries) c.get_mut.follows.holds-at-none ∙ stamped_none c.args.dot.now c.args.stamp.now c.args.number _ c.requires.keyed c.requires.one (sym c.in-None.ensures.value)
