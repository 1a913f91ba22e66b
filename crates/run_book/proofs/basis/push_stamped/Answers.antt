use Rattle.std.proofs.Common.{rules, tests}
use Rattle.std.proofs.lemmas.Iterator.{YieldsList-from_slice, YieldsList-from_take}
use Rattle.std.proofs.lemmas.Iterator.Adapters.{items_from_extend}
use Rattle.std.proofs.lemmas.Iterator.Consumers.{YieldsList-from_filter_map, YieldsList-at}
use Rattle.run_book.specs.Basis.{dot_stamped}
use Rattle.run_book.proofs.basis.push_stamped.Goals as goal

pub returns : goal.returns
returns c = let h = items_from_extend c.extend.result c.extend.ensures.ran (YieldsList-from_take c.args.most (YieldsList-at c.take.ensures.source (YieldsList-from_filter_map _ (λ entry. dot_stamped entry.ask entry.say) (YieldsList-from_slice c.args.trail.now cc) c.filter_map.ensures.closure (λ x r q k. search (rules, tests)))) c.take.ensures.count) in search rules
