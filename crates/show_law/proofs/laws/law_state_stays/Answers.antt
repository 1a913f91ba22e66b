use Rattle.show_law.proofs.Staying.{stays, empty_at}
use Rattle.show_law.proofs.laws.law_state_stays.Goals as goal

pub returns : goal.returns
returns c = record { stays = stays; zero = empty_at }
