-- The words of a text, cut off one after another.
use Rattle.std.proofs.Common.{◌≡◌, ◌<◌, ℕ, true, false, List, [], ◌∷◌, ◌++◌, length, refl, ap, arith}
use Rattle.std.specs.Prelude.{All, filter}
use Rattle.std.proofs.lemmas.List.Splits.{slice_split-cons_yes, slice_split_none, slice_split_at}
use Rattle.script_reader.specs.Words.{is_blank, is_some_text, words_of}

-- no blank is among them
abbrev pub IsUnbroken : List ℕ → Type 0
IsUnbroken word = All (λ b. is_blank b ≡ false) word

-- no text has no words
pub words_none : words_of [] ≡ []
unfolding words_of
words_none = refl

-- a blank in front of a text is in none of its words
pub words_blank : (b : ℕ) (rest : List ℕ) → is_blank b ≡ true → words_of (b ∷ rest) ≡ words_of rest
unfolding words_of
words_blank b rest blank = ap (filter is_some_text) (slice_split-cons_yes is_blank b rest blank)

-- a word in front of a blank
pub words_at : (word : List ℕ) (b : ℕ) (rest : List ℕ) → IsUnbroken word → 0 < length word → is_blank b ≡ true → words_of (word ++ b ∷ rest) ≡ word ∷ words_of rest
unfolding words_of
words_at [] b rest unbroken some blank = absurd (omega arith)
words_at (x ∷ xs) b rest unbroken some blank = ap (filter is_some_text) (slice_split_at is_blank (x ∷ xs) b rest unbroken blank)

-- a last word
pub words_last : (word : List ℕ) → IsUnbroken word → 0 < length word → words_of word ≡ word ∷ words_of []
unfolding words_of
words_last [] unbroken some = absurd (omega arith)
words_last (x ∷ xs) unbroken some = ap (filter is_some_text) (slice_split_none is_blank (x ∷ xs) unbroken)

-- a blank that no word stands before
pub words_skip : (word : List ℕ) (b : ℕ) (rest : List ℕ) → length word ≡ 0 → is_blank b ≡ true → words_of (word ++ b ∷ rest) ≡ words_of rest
words_skip [] b rest none blank = words_blank b rest blank
words_skip (x ∷ xs) b rest none blank = absurd (omega arith)

-- no bytes are no words
pub words_empty : (text : List ℕ) → length text ≡ 0 → words_of text ≡ []
words_empty [] none = words_none
words_empty (x ∷ xs) none = absurd (omega arith)
