use Rattle.show_law.proofs.Fronts.{base_is, fetched_is}
use Rattle.show_law.proofs.Feeding.{is_show}
use Rattle.show_law.proofs.Showing.{show_stays}
use Rattle.show_law.proofs.laws.law_show.Goals as goal

pub returns : goal.returns
returns c = record {
  fetch = λ s trail p q base object state history pruned lt fetched. (base_is s trail p base history pruned, fetched_is s trail p q base object state history pruned lt fetched);
  feed = λ s trail actor centre objects show deeds history feed sub. is_show s trail history actor centre objects show deeds feed sub;
  later = show_stays;
}
