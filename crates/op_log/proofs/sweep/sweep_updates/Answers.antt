use Rattle.std.proofs.Common.{◌++◌, ◌∷◌, [], take, ⊎_elim, sym, ap, ◌∙◌, subst}
use Rattle.std.specs.Map.{values_of}
use Rattle.std.proofs.lemmas.List.{take_more}
use Rattle.list_core.specs.Members.{In}
use Rattle.list_core.proofs.Members.{In_more}
use Rattle.tx_core.specs.declared.tx.Update.{Update}
use Rattle.op_log.specs.Tables.{IsSwept}
use Rattle.op_log.proofs.Items.{item_In}
use Rattle.op_log.proofs.sweep.sweep_updates.Goals as goal

pub sweep_at-requires-clause-has : goal.sweep_at-requires-clause-has
sweep_at-requires-clause-has c = c.requires.has c.update-item.result (item_In c.args.updates.now c.loop-update.update-index c.update-item.result c.loop-update-test.true c.update-item.is)

pub loop-update-preserved : goal.loop-update-preserved
loop-update-preserved c = record {
  may = c.sweep_at.ensures.may;
  kept = λ o swept. c.sweep_at.ensures.kept o (c.loop-update.invariant.kept o swept);
  swept = λ u i. ⊎_elim
      (λ j. c.sweep_at.ensures.kept u.object (c.loop-update.invariant.swept u j))
      (λ same. subst (λ (u : Update). IsSwept c.args.base.now (values_of c.args.slots.now.entries) c.sweep_at.new.chains u.object) (sym same) c.sweep_at.ensures.swept)
      (In_more (take c.loop-update.update-index c.args.updates.now) c.update-item.result u (subst (λ l. In u l) (take_more c.args.updates.now c.loop-update.update-index c.update-item.result c.loop-update-test.true ∙ ap (λ v. take c.loop-update.update-index c.args.updates.now ++ v ∷ []) (sym c.update-item.is)) i));
}
