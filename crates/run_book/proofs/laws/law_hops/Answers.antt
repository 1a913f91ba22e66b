use Rattle.run_book.proofs.Causal.Hops.{hops_below}
use Rattle.run_book.proofs.laws.law_hops.Goals as goal

pub returns : goal.returns
returns c = λ setup fit. record { below = hops_below c.args.book.now setup fit }
