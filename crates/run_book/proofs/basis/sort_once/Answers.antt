use Rattle.tx_graph.proofs.Ascending.{once_ascending, once_members}
use Rattle.run_book.proofs.basis.sort_once.Goals as goal

pub returns-clause-ascending : goal.returns-clause-ascending
returns-clause-ascending c = once_ascending c.sort_unstable.new.self.items c.dedup.new.self.items c.sort_unstable.ensures.sorted c.dedup.ensures.filtered

pub returns-clause-members : goal.returns-clause-members
returns-clause-members c = λ d. once_members c.args.dots.now.items c.sort_unstable.new.self.items c.dedup.new.self.items d c.sort_unstable.ensures.permutation c.dedup.ensures.filtered
