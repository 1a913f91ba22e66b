use Rattle.std.proofs.Common.{take}
use Rattle.std.specs.Prelude.{All}
use Rattle.parts_frames.proofs.see.see_each.Given as goal

abbrev pub invariant-loop-item : goal.invariant-loop-item
invariant-loop-item g l = All (λ item. g.T.See.is_ranged item → g.T.See.has_bytes item) (take l.item-index l.items)
