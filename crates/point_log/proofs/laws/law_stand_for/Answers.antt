use Rattle.point_log.proofs.StandingFor.{state_stands, mine_stands, count_stands, known_stands}
use Rattle.point_log.proofs.laws.law_stand_for.Goals as goal

pub returns : goal.returns
returns c = record {
  state = λ A point kept w o s. state_stands A point kept s w o;
  mine = λ A point kept w client s. mine_stands A point kept s w client;
  count = λ A point kept w s. count_stands A point kept s w;
  order = λ A point kept s. s.in_log.order;
  known = λ A point kept x s. known_stands A point kept s x;
}
