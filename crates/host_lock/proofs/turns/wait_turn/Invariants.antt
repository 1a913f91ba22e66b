use Rattle.std.proofs.Common.{◌≡◌, ℕ, List}
use Rattle.host_lock.specs.Steps.{found_more}
use Rattle.host_lock.proofs.turns.wait_turn.Given as goal

abbrev pub invariant-loop : goal.invariant-loop
invariant-loop g l =
    (goal.iterator-loop g).can_next l.iterator' × (goal.iterator-loop g).is_finite l.iterator' × (l.seat.table_id ≡ l.shared.table_id)
    × ((found : List ℕ) × (l.seat.me ≡ (found_more l.fn.seat.me.0 found, l.fn.seat.me.1)))
