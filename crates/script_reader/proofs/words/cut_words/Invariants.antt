use Rattle.std.proofs.Common.{◌≡◌, ◌++◌, take}
use Rattle.script_reader.specs.Words.{texts_of, words_of}
use Rattle.script_reader.proofs.words.cut_words.Given as goal

abbrev pub invariant-loop-count : goal.invariant-loop-count
invariant-loop-count l = words_of l.text ≡ texts_of (take l.count l.places) ++ words_of l.rest
