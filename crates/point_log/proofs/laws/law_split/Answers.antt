use Rattle.point_log.proofs.Splits.{state_of_split, mine_of_split, count_of_split}
use Rattle.point_log.proofs.laws.law_split.Goals as goal

pub returns : goal.returns
returns c = record {
  state = λ A base w folded kept o split. state_of_split A base folded kept split w o;
  mine = λ A base w folded kept client split. mine_of_split A base folded kept split w client;
  count = λ A base w folded kept split. count_of_split A base folded kept split w;
}
