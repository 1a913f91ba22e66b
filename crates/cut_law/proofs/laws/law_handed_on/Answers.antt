use Rattle.cut_law.proofs.Handed.{sent_later, relayed_later}
use Rattle.cut_law.proofs.laws.law_handed_on.Goals as goal

pub returns-clause-sends : goal.returns-clause-sends
returns-clause-sends c = sent_later

pub returns-clause-relays : goal.returns-clause-relays
returns-clause-relays c = relayed_later
