use Rattle.std.proofs.Common.{sym, ◌∙◌}
use Rattle.std.specs.Map.{values_of}
use Rattle.std.proofs.lemmas.Bool.{false≢true}
use Rattle.ids_core.specs.Ids.{same_dot}
use Rattle.stamp_index.proofs.Finds.{found_none}
use Rattle.op_log.proofs.Items.{stamps_none}
use Rattle.op_log.proofs.stamps.alias_at.Goals as goal

pub returns-then-not-is_named-clause-ok : goal.returns-then-not-is_named-clause-ok
returns-then-not-is_named-clause-ok c =
    let items = values_of c.args.slots.now.entries in
    sym (stamps_none c.args.dot.now c.args.stamp.now items (λ x i same. false≢true (sym (found_none (λ x. same_dot x.tx.dot c.args.dot.now) items x (sym c.if-not-is_named.ensures) i) ∙ same)))
