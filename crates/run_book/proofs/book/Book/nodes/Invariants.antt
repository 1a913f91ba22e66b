use Rattle.std.proofs.Common.{◌≡◌, ◌+◌, ◌-◌, map}
use Rattle.std.specs.Prelude.{flat_map}
use Rattle.std.specs.List.{range_with_len}
use Rattle.dc_talk.specs.Rule.{commits_of}
use Rattle.run_book.specs.Setups.{Setup}
use Rattle.run_book.specs.Parts.{notes_of}
use Rattle.run_book.specs.Fit.{FitsWith}
use Rattle.run_book.specs.Graphs.{node_of}
use Rattle.run_book.specs.BareNodes.{bare_node}
use Rattle.run_book.proofs.book.Book.nodes.Given as goal

abbrev pub invariant-loop-client : goal.invariant-loop-client
invariant-loop-client l = (setup : Setup) → FitsWith l.self setup → l.nodes.items ≡ map bare_node (map (node_of l.self) (flat_map (λ client. commits_of l.self.n client setup.capacity (notes_of l.self (client + 1))) (range_with_len 1 (l.client - 1))))
