use Rattle.run_rights.proofs.RightsRead.{rights_read, rights_fit}
use Rattle.run_rights.proofs.laws.law_rights_read.Goals as goal

pub returns : goal.returns
returns c = record {
  over = λ setup a place gains losses value fit client counters within read. rights_read c.args.book.now setup fit gains losses counters a place value client within read;
  fits = λ setup a place gains losses value fit client counters read few. rights_fit c.args.book.now setup fit gains losses counters a place value client read few;
}
