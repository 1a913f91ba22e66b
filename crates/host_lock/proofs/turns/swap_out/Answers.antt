use Rattle.std.proofs.Common.{arith, ap, ◌∙◌, sym, rules, ◌∷◌, Some}
use Rattle.atomic_table.specs.Table.{rest}
use Rattle.host_lock.proofs.Steps.{takes_it}
use Rattle.host_lock.proofs.turns.swap_out.Goals as goal

pub load-requires : goal.load-requires
load-requires g c = let m = g.M.Machine in (c.requires.table.0, omega (arith, c.requires.table.1.0), takes_it m.reply m.stands m.settings _ _ _ _ _ _ c.requires.turns.0 c.requires.turns.1)

pub exchange-requires : goal.exchange-requires
exchange-requires g c = let t = c.load.ensures.2 in let is = ap (λ x. x.1) t.2 in (search rules, (Some t.1, is ∙ ap (λ l. (0, Some t.1) ∷ l) (sym (ap rest is))))
