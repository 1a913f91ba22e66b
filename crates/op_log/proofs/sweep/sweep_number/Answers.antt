use Rattle.std.proofs.Common.{◌∙◌, sym, subst, ap}
use Rattle.std.specs.Map.{values_of}
use Rattle.list_core.specs.Members.{In}
use Rattle.op_log.specs.declared.logged.Logged.{Logged}
use Rattle.op_log.specs.Tables.{HasCell}
use Rattle.op_log.proofs.Items.{rises_one}
use Rattle.op_log.proofs.Numbers.{found_at, lost_at}
use Rattle.op_log.proofs.Sweeping.{has_cell}
use Rattle.op_log.proofs.sweep.sweep_number.Goals as goal

pub sweep_updates-requires-clause-has : goal.sweep_updates-requires-clause-has
sweep_updates-requires-clause-has c u i =
    let f = found_at c.args.number c.args.slots.now.entries c.in-Some.x.now c.requires.keyed (sym c.in-Some.ensures.value) in
    subst (HasCell (values_of c.args.slots.now.entries) u.object) f.1 (has_cell (values_of c.args.slots.now.entries) c.in-Some.x.now u f.0 (subst (λ l. In u l) c.updates.ensures i))

pub returns-in-Some-clause-swept : goal.returns-in-Some-clause-swept
returns-in-Some-clause-swept c x i same u j =
    let f = found_at c.args.number c.args.slots.now.entries c.in-Some.x.now c.requires.keyed (sym c.in-Some.ensures.value) in
    let one = rises_one (values_of c.args.slots.now.entries) x c.in-Some.x.now c.requires.rises i f.0 (same ∙ sym f.1) in
    c.sweep_updates.ensures.swept u (subst (λ l. In u l) (ap (λ (x : Logged). x.tx.updates) one ∙ sym c.updates.ensures) j)

pub returns-in_default-clause-swept : goal.returns-in_default-clause-swept
returns-in_default-clause-swept c x i same u j = absurd (lost_at c.args.number c.args.slots.now.entries x c.requires.keyed (sym c.in_default.ensures.value) i same)
