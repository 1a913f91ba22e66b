use Rattle.std.proofs.Common.{◌≡◌, ◌++◌, take}
use Rattle.std.specs.Prelude.{codes, flat_map}
use Rattle.trail_text.specs.Words.{dot_text}
use Rattle.trail_text.proofs.bases.write_dots.Given as goal

abbrev pub invariant-loop-dot : goal.invariant-loop-dot
invariant-loop-dot l = l.text.items ≡ l.fn.text.items ++ flat_map (λ dot. codes " " ++ dot_text dot) (take l.dot-index l.dots)
