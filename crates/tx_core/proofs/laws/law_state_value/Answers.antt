use Rattle.tx_core.proofs.Values.{counter_exact, value_is}
use Rattle.tx_core.proofs.laws.law_state_value.Goals as goal

pub returns : goal.returns
returns c = record { value = value_is; exact = counter_exact }
