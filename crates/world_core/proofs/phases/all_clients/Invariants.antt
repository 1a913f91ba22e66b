use Rattle.std.proofs.Common.{◌≡◌, ℕ, map}
use Rattle.std.specs.List.{range_with_len}
use Rattle.world_core.proofs.phases.all_clients.Given as goal

abbrev pub invariant-numbers : goal.invariant-numbers
invariant-numbers l = l.all.items ≡ map (λ (client : ℕ). client) (range_with_len 1 l.before)
