use Rattle.join_bundle.specs.declared.condition.Condition.TheVariants.{ClientOrder}
use Rattle.bundle_law.proofs.Making.{guard_made, point_made, log_made, number_noted}
use Rattle.bundle_law.proofs.made.law_made.Goals as goal

pub returns : goal.returns
returns c = record {
  guard = guard_made;
  point = point_made;
  log = log_made;
  numbers = λ parts client is. number_noted parts.clients client (is.meets ClientOrder);
}
