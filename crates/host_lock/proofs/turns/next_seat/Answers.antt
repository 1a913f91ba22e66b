use Rattle.std.proofs.Common.{arith, ap, ◌∙◌, rules}
use Rattle.host_lock.proofs.Steps.{draws, deals}
use Rattle.host_lock.proofs.turns.next_seat.Goals as goal

pub fetch_add-requires : goal.fetch_add-requires
fetch_add-requires g c = let m = g.M.Machine in (c.requires.table.0, omega (arith, c.requires.table.1.0), draws m.reply m.stands m.settings _ _ _ _ _ _ c.requires.makes.0 c.requires.makes.1)

pub split_seat-requires : goal.split_seat-requires
split_seat-requires g c = let m = g.M.Machine in let now = c.fetch_add.ensures.2 in
    (search rules, omega (arith, c.requires.table.1.0), deals m.reply m.stands m.settings _ _ _ _ _ (ap (λ x. x.0.makes) now ∙ c.requires.makes.0) (ap (λ x. x.0.hand) now))
