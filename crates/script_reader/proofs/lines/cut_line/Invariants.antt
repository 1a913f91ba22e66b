use Rattle.std.proofs.Common.{◌≡◌, ◌≤◌, ◌++◌, ℕ, List, false, length, take}
use Rattle.std.specs.Prelude.{All}
use Rattle.script_reader.specs.Words.{is_hidden, texts_of, words_of}
use Rattle.script_reader.proofs.lines.cut_line.Given as goal

abbrev pub invariant-words : goal.invariant-words
invariant-words l = record {
  front : List ℕ;
  is : l.text ≡ front ++ l.rest;
  shown : All (λ b. is_hidden b ≡ false) front;
  few : l.count ≤ length l.places;
  words : (more : List ℕ) → words_of (front ++ more) ≡ texts_of (take l.count l.places) ++ words_of more;
}

abbrev pub decreases-words : goal.decreases-words
decreases-words l = length l.rest
