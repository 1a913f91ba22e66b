use Rattle.std.proofs.Common.{◌≡◌, ◌++◌, map, take}
use Rattle.print_text.specs.Text.{later, pair_text}
use Rattle.print_text.proofs.value.write_later_pairs.Given as goal

abbrev pub invariant-loop-pair : goal.invariant-loop-pair
invariant-loop-pair l = l.text.items ≡ l.fn.text.items ++ later 32 (map pair_text (take l.pair-index l.pairs))
