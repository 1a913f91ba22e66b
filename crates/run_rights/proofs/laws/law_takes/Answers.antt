use Rattle.run_rights.proofs.ShareReads.{takes_from}
use Rattle.run_rights.proofs.laws.law_takes.Goals as goal

pub returns : goal.returns
returns c = λ come client owner word share to amount deeds mine are. takes_from share client owner word to amount come deeds mine are
