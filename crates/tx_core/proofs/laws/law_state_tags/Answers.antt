use Rattle.tx_core.proofs.Values.{tags_live}
use Rattle.tx_core.proofs.laws.law_state_tags.Goals as goal

pub returns : goal.returns
returns c = record { live = tags_live }
