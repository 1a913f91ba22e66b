use Rattle.ids_core.specs.declared.limits.TheConstants.{MOST_CLIENTS}
use Rattle.dup_guard.proofs.Notes.{number_of_nothing, stamp_of_nothing}
use Rattle.dup_guard.proofs.guard.Guard.new.Goals as goal

pub returns-clause-numbers : goal.returns-clause-numbers
returns-clause-numbers c = number_of_nothing _ MOST_CLIENTS (c.in_ok-lasts.ensures.items_if_clones_equal (λ y is. is))

pub returns-clause-stamps : goal.returns-clause-stamps
returns-clause-stamps c = stamp_of_nothing _ MOST_CLIENTS (c.in_ok-lasts.ensures.items_if_clones_equal (λ y is. is))
