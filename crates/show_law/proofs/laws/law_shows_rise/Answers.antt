use Rattle.show_law.proofs.Showing.{show_rises, show_stable, show_held}
use Rattle.show_law.proofs.laws.law_shows_rise.Goals as goal

pub returns : goal.returns
returns c = record { rise = show_rises; stable = show_stable; held = show_held }
