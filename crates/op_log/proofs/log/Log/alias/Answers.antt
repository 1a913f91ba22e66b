use Rattle.std.proofs.Common.{sym, ap, ◌∙◌, arith}
use Rattle.op_log.specs.Logs.{has_dot, with_stamp}
use Rattle.op_log.proofs.Keeping.{log_added, only_named, no_dot, no_stamp}
use Rattle.op_log.proofs.log.Log.alias.Goals as goal

pub alias_at-requires-clause-one : goal.alias_at-requires-clause-one
alias_at-requires-clause-one c = only_named _ _ _ _ _ c.args.dot.now c.in-Some.number.now c.self.invariant (sym c.in-Some.ensures.value)

pub invariant_of-self : goal.invariant_of-self
invariant_of-self c = log_added c.alias_at.result _ _ _ _ _ _ _ c.args.dot.now c.args.stamp.now c.in-Some.number.now c.self.invariant (sym c.in-Some.ensures.value) (omega arith) c.alias_at.ensures.keyed c.alias_at.ensures.ok c.alias_at.ensures.err c.alias_at.ensures.noted c.alias_at.ensures.kept

pub returns-in-None-clause-found : goal.returns-in-None-clause-found
returns-in-None-clause-found c = no_dot _ _ _ _ _ c.args.dot.now c.self.invariant (sym c.in-None.ensures.value) ∙ ap (λ l. has_dot c.args.dot.now l.items) c.self.view_is

pub returns-in-None-clause-ok : goal.returns-in-None-clause-ok
returns-in-None-clause-ok c =
    let view = c.self.view_is in
    ap (λ items. record c.args.self.now { items = items }) (ap (λ l. l.items) (sym view) ∙ no_stamp _ _ _ _ _ c.args.dot.now c.args.stamp.now c.self.invariant (sym c.in-None.ensures.value) ∙ ap (λ l. with_stamp c.args.dot.now c.args.stamp.now l.items) view)
