use Rattle.std.proofs.Common.{sym, ap, subst, ◌∙◌}
use Rattle.list_core.specs.Members.{In}
use Rattle.ids_core.specs.Ids.{same_dot}
use Rattle.op_log.specs.Tables.{IsTable}
use Rattle.op_log.proofs.Numbers.{lost_at}
use Rattle.op_log.proofs.Taking.{table_less}
use Rattle.op_log.proofs.take.take_one.Goals as goal

pub returns-in-Some-clause-table : goal.returns-in-Some-clause-table
returns-in-Some-clause-table c = subst (λ fs. IsTable fs c.forget.new.dots.entries c.lift_all.new.places.keys) (sym c.remove.ensures.entries) (table_less c.args.number c.args.slots.now.entries c.args.dots.now.entries c.forget.new.dots.entries c.args.places.now.keys c.lift_all.new.places.keys c.in-Some.x c.requires.table (sym c.in-Some.ensures.value) (λ d other. c.forget.ensures d (ap (λ e. same_dot e d) c.dot.ensures ∙ other)) c.lift_all.ensures.apart (λ s i. c.lift_all.ensures.gone s (subst (λ l. In s l) (sym c.stamps.ensures) i)) c.lift_all.ensures.fewer)

pub returns-in_default-clause-len : goal.returns-in_default-clause-len
returns-in_default-clause-len c = absurd (lost_at c.args.number c.args.slots.now.entries c.requires.there.0 c.requires.table.keyed (sym c.in_default.ensures.value) c.requires.there.1 c.requires.there.2)
