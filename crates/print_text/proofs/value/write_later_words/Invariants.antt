use Rattle.std.proofs.Common.{◌≡◌, ◌++◌, take}
use Rattle.print_text.specs.Text.{later}
use Rattle.print_text.proofs.value.write_later_words.Given as goal

abbrev pub invariant-loop-word : goal.invariant-loop-word
invariant-loop-word l = l.text.items ≡ l.fn.text.items ++ later 32 (take l.word-index l.words)
