use Rattle.check_point.proofs.Partings.{state_of_parting, number_of_parting, count_of_parting}
use Rattle.check_point.proofs.laws.law_parting.Goals as goal

pub returns : goal.returns
returns c = record {
  states = λ o test txs folded kept p. state_of_parting test txs folded kept p o;
  numbers = λ client test txs folded kept p. number_of_parting test txs folded kept p client;
  count = count_of_parting;
}
