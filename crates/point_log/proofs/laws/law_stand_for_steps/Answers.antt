use Rattle.point_log.proofs.StandingFor.{none_stand, new_stands, first_stands, again_stands, pruned_stands}
use Rattle.point_log.proofs.laws.law_stand_for_steps.Goals as goal

pub returns : goal.returns
returns c = record {
  none = none_stand;
  new = λ A point kept d s. new_stands A point kept s d;
  first = λ A point kept r s. first_stands A point kept s r;
  again = λ A point kept r s. again_stands A point kept s r;
  pruned = λ A point after kept s. pruned_stands A point kept s after;
}
