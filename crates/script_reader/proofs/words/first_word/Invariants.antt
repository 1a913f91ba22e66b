use Rattle.std.proofs.Common.{◌≡◌, length}
use Rattle.script_reader.specs.Words.{words_of}
use Rattle.script_reader.proofs.words.first_word.Given as goal

abbrev pub invariant-blanks : goal.invariant-blanks
invariant-blanks l = words_of l.text ≡ words_of l.rest

abbrev pub decreases-blanks : goal.decreases-blanks
decreases-blanks l = length l.rest
