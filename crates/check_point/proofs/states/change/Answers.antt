use Rattle.std.proofs.Common.{ap, ◌∙◌}
use Rattle.ids_core.specs.declared.ids.Mark.{Mark}
use Rattle.tx_core.specs.declared.op.Op.{Op}
use Rattle.tx_core.specs.States.{step}
use Rattle.check_point.proofs.Entries.{unchanged, changed_one, known_one}
use Rattle.check_point.proofs.states.change.Goals as goal

pub returns-in_ok-insert-in-None-clause-states : goal.returns-in_ok-insert-in-None-clause-states
returns-in_ok-insert-in-None-clause-states c =
    let marked : Mark × Op = (c.args.mark.now, c.args.op.now) in
    changed_one c.args.changed.now.entries _ _ c.args.kept.now.entries c.args.object.now marked _ (ap (λ m. m.entries) c.get_mut.follows.holds-at-none) c.in_ok-insert-in-None.ensures.updates.0
    (c.in_ok-fold-in-None.ensures.ok ∙ ap (λ s. step s marked) (c.in_ok-state-in-None.ensures ∙ unchanged c.args.changed.now.entries c.args.kept.now.entries c.args.object.now c.in-None.ensures.value))

pub returns-in_ok-insert-in-None-clause-known : goal.returns-in_ok-insert-in-None-clause-known
returns-in_ok-insert-in-None-clause-known c = known_one c.args.changed.now.entries _ _ c.args.object.now _ (ap (λ m. m.entries) c.get_mut.follows.holds-at-none) c.in_ok-insert-in-None.ensures.updates.0
