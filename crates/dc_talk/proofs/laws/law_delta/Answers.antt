use Rattle.dc_talk.proofs.Deltas.{state_since}
use Rattle.dc_talk.proofs.laws.law_delta.Goals as goal

pub returns : goal.returns
returns c A before w o covers = state_since A before w o covers
