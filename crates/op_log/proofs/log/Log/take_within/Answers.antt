use Rattle.std.proofs.Common.{ap, ◌∙◌}
use Rattle.std.specs.Prelude.{not}
use Rattle.std.specs.Map.{values_of}
use Rattle.op_log.specs.Logs.{LogView, is_inside, left_of}
use Rattle.op_log.proofs.Keeping.{log_left}
use Rattle.op_log.proofs.Taking.{values_of-filter}
use Rattle.op_log.proofs.log.Log.take_within.Goals as goal

pub invariant_of-self : goal.invariant_of-self
invariant_of-self c = log_left _ c.args.base.now _ _ _ _ _ _ _ _ c.self.invariant c.take_all.ensures.left c.take_all.ensures.table c.sweep_chains.ensures

pub returns-clause-left : goal.returns-clause-left
returns-clause-left c =
    let w = c.args.base.now in
    ap (λ items. record { appended = c.self.inside.appended; items = items }) (ap values_of c.take_all.ensures.left ∙ values_of-filter (λ x. not (is_inside w x)) c.self.inside.slots.entries)
    ∙ ap (λ (l : LogView). record l { items = left_of w l.items }) c.self.view_is
