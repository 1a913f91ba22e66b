use Rattle.tally_core.proofs.Unseen.{tags_equal_sees}
use Rattle.tally_core.proofs.sees.law_sees.Goals as goal

pub returns : goal.returns
returns g c acts t h = tags_equal_sees acts t.adds t.kills t.over t.sees t.less h
