use Rattle.std.proofs.Common.{◌≡◌, ◌<◌, ℕ, get_or, min}
use Rattle.vv_core.proofs.entries.meet_entries.Given as goal

abbrev pub invariant-loop-e : goal.invariant-loop-e
invariant-loop-e l = (i : ℕ) → i < l.e → get_or l.into i 0 ≡ min (get_or l.left i 0) (get_or l.right i 0)
