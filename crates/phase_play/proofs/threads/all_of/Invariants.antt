use Rattle.std.proofs.Common.{◌≡◌, map, Ok}
use Rattle.phase_play.proofs.threads.all_of.Given as goal

abbrev pub invariant-results : goal.invariant-results
invariant-results g l = map Ok l.all.items ≡ l.yielded
