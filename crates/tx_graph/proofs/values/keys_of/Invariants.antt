use Rattle.std.proofs.Common.{◌≡◌, ◌++◌, drop, map}
use Rattle.tx_graph.proofs.values.keys_of.Given as goal

abbrev pub invariant-loop-put : goal.invariant-loop-put
invariant-loop-put l = l.list.items ++ map (λ put. put.key) (drop l.put-index l.puts) ≡ map (λ put. put.key) l.fn.puts
