use Rattle.std.proofs.Common.{◌≡◌, ◌++◌, drop}
use Rattle.std.specs.List.{filter_map}
use Rattle.tx_graph.specs.Unseen.{word_under}
use Rattle.tx_graph.proofs.values.words_under.Given as goal

abbrev pub invariant-loop-put : goal.invariant-loop-put
invariant-loop-put l = l.list.items ++ filter_map (word_under l.key) (drop l.put-index l.puts) ≡ filter_map (word_under l.fn.key) l.fn.puts
