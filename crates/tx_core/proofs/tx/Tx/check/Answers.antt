use Rattle.std.proofs.Common.{refl, sym, ◌∙◌}
use Rattle.std.proofs.lemmas.Bool.{false≢true}
use Rattle.std.proofs.lemmas.Option.{none-some}
use Rattle.tx_core.proofs.Fits.{fault_of-none, none-fault_of}
use Rattle.tx_core.proofs.tx.Tx.check.Goals as goal

pub returns-in-None-clause-fits : goal.returns-in-None-clause-fits
returns-in-None-clause-fits c = (λ _. fault_of-none c.args.n c.args.self.now (sym c.in-None.ensures), λ _. refl)

pub returns-in-Some-clause-fits : goal.returns-in-Some-clause-fits
returns-in-Some-clause-fits c = (λ h. absurd (false≢true h), λ fit. absurd (none-some c.in-Some.fault (sym (none-fault_of c.args.n c.args.self.now fit) ∙ sym c.in-Some.ensures)))
