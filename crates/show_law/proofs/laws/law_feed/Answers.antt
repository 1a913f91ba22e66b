use Rattle.show_law.proofs.Feeding.{either_way}
use Rattle.show_law.proofs.laws.law_feed.Goals as goal

pub returns : goal.returns
returns c = either_way
