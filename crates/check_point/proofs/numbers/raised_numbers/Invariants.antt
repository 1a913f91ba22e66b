use Rattle.std.proofs.Common.{◌≡◌, ℕ, max, drop}
use Rattle.check_point.specs.Operations.{greatest}
use Rattle.check_point.specs.Points.{number_in, number_over}
use Rattle.check_point.proofs.numbers.raised_numbers.Given as goal

abbrev pub invariant-loop-tx : goal.invariant-loop-tx
invariant-loop-tx l = (client : ℕ) → max (greatest client (drop l.tx-index l.txs)) (number_over l.raised.entries l.kept.entries client) ≡ max (greatest client l.txs) (number_in l.kept.entries client)
