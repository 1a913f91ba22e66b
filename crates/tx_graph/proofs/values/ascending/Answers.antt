use Rattle.std.proofs.lemmas.List.Filters.{dedup_is}
use Rattle.tx_graph.proofs.AscendingNames.{names_ascend, names_kept}
use Rattle.tx_graph.proofs.values.ascending.Goals as goal

pub returns-clause-ascending : goal.returns-clause-ascending
returns-clause-ascending c = rw (dedup_is _ _ _ c.dedup.ensures.filtered) (names_ascend c.sort_unstable.new.self.items c.sort_unstable.ensures.sorted)

pub returns-clause-exact : goal.returns-clause-exact
returns-clause-exact c = λ name. rw (dedup_is _ _ _ c.dedup.ensures.filtered) (names_kept c.args.names.items c.sort_unstable.new.self.items name c.sort_unstable.ensures.permutation)
