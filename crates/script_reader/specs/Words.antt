-- The words of a line.
use Rattle.std.specs.Prelude.{◌-◌, ◌==◌, ◌&&◌, ◌||◌, ℕ, Bool, true, false, nat_le, nat_lt, List, [], ◌∷◌, length, take, map, filter, slice_index, if◌then◌else◌}
use Rattle.std.specs.List.{list_all, slice_split}
use Rattle.std.specs.Borrow.{Bor}

-- a space or a tab
abbrev pub is_blank : ℕ → Bool
is_blank b = b == 32 || b == 9

-- there is a byte
abbrev pub is_some_text : List ℕ → Bool
is_some_text [] = false
is_some_text (b ∷ bs) = true

-- the words of a text: what stands between blanks
unfoldable pub words_of : List ℕ → List (List ℕ)
words_of text = filter is_some_text (slice_split is_blank text)

-- the texts of words that were cut off
abbrev pub texts_of : List (Bor (List ℕ)) → List (List ℕ)
texts_of words = map (λ word. word.now) words

-- a line without the carriage return that may end it
abbrev pub without_return : List ℕ → List ℕ
without_return line = if slice_index line (length line - 1) == 13 then take (length line - 1) line else line

-- a byte of a line that is not skipped: a tab, or from 0x20 to 0x7E
abbrev pub is_plain : ℕ → Bool
is_plain b = b == 9 || (nat_le 32 b && nat_le b 126)

-- a byte that does not show: none from 0x20 to 0x7E
abbrev pub is_hidden : ℕ → Bool
is_hidden b = nat_lt b 32 || nat_lt 126 b

-- a byte of a word of such a line: from 0x21 to 0x7E
abbrev pub is_shown : ℕ → Bool
is_shown b = nat_lt 32 b && nat_lt b 127

-- all bytes of a line that is not skipped are such
abbrev pub is_plain_text : List ℕ → Bool
is_plain_text text = list_all is_plain text

-- no words, or a first one that begins with `#`
abbrev pub is_comment : List (List ℕ) → Bool
is_comment [] = true
is_comment (word ∷ words) = slice_index word 0 == 35
