use Rattle.std.proofs.Common.{◌≡◌, ◌++◌, ◌+◌, ◌-◌}
use Rattle.std.specs.Prelude.{flat_map}
use Rattle.std.specs.List.{range_with_len}
use Rattle.run_book.specs.Fit.{FitsWith}
use Rattle.run_book.specs.ReadBases.{bases_of}
use Rattle.run_book.specs.Setups.{Setup}
use Rattle.trail_text.specs.Trails.{bases_text}
use Rattle.trail_text.proofs.trail.write_reads.Given as goal

abbrev pub invariant-loop-client : goal.invariant-loop-client
invariant-loop-client l = (setup : Setup) → FitsWith l.book setup → l.text.items ≡ l.fn.text.items ++ flat_map (λ client. bases_text client (bases_of l.book setup (client + 1))) (range_with_len 1 (l.client - 1))
