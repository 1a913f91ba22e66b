-- The words of a line, cut off as its bytes are gone over.
use Rattle.std.proofs.Common.{◌≡◌, ◌<◌, ◌+◌, ◌-◌, ℕ, List, [], ◌∷◌, ◌++◌, Bor, length, set, take, refl, ap, sym, ◌∙◌, arith, append_assoc, append-nil}
use Rattle.std.proofs.lemmas.List.{length-append, take_at}
use Rattle.script_reader.specs.Words.{texts_of, words_of}
use Rattle.script_reader.proofs.Blanks.{IsUnbroken, words_none, words_blank, words_at, words_last, words_empty}
use Rattle.script_reader.proofs.Cutting.{cut_more}

-- a space parts the words before it from those behind it
words_parted : (word rest : List ℕ) → IsUnbroken word → words_of (word ++ 32 ∷ rest) ≡ words_of word ++ words_of rest
words_parted [] rest unbroken = words_blank 32 rest refl ∙ ap (λ front. front ++ words_of rest) (sym words_none)
words_parted (b ∷ bs) rest unbroken =
    words_at (b ∷ bs) 32 rest unbroken (omega arith) refl
    ∙ ap (λ front. front ++ words_of rest) (sym (words_last (b ∷ bs) unbroken (omega arith) ∙ ap (λ none. (b ∷ bs) ∷ none) words_none))

-- behind one more space
pub words_on : (front word : List ℕ) (old new : List (List ℕ)) → ((more : List ℕ) → words_of (front ++ more) ≡ old ++ words_of more) → IsUnbroken word → new ≡ old ++ words_of word → (more : List ℕ) → words_of ((front ++ (word ++ 32 ∷ [])) ++ more) ≡ new ++ words_of more
words_on front word old new before unbroken is more =
    ap words_of (append_assoc front (word ++ 32 ∷ []) more ∙ ap (λ rest. front ++ rest) (append_assoc word (32 ∷ []) more))
    ∙ (before (word ++ 32 ∷ more)
    ∙ (ap (λ rest. old ++ rest) (words_parted word more unbroken)
    ∙ (sym (append_assoc old (words_of word) (words_of more)) ∙ ap (λ all. all ++ words_of more) (sym is))))

-- a text behind one more byte
pub text_on : (text front rest word more : List ℕ) (b : ℕ) → text ≡ front ++ rest → rest ≡ word ++ b ∷ more → text ≡ (front ++ (word ++ b ∷ [])) ++ more
text_on text front rest word more b is cut = is ∙ (ap (λ r. front ++ r) (cut ∙ sym (append_assoc word (b ∷ []) more)) ∙ sym (append_assoc front (word ++ b ∷ []) more))

-- the line that ends here
pub line_is : (text line front rest word more : List ℕ) (b : ℕ) → text ≡ front ++ rest → rest ≡ word ++ b ∷ more → line ≡ take (length text - length more - 1) text → line ≡ front ++ word
line_is text line front rest word more b is cut ends =
    let whole : text ≡ (front ++ word) ++ b ∷ more = is ∙ (ap (λ r. front ++ r) cut ∙ sym (append_assoc front word (b ∷ more))) in
    let size : length (front ++ word) ≡ length text - length more - 1 = let long = ap length whole in let parts = length-append (front ++ word) (b ∷ more) in omega arith in
    ends ∙ (ap (take (length text - length more - 1)) whole ∙ take_at (front ++ word) (b ∷ more) (length text - length more - 1) size)

-- no word is put
pub put_none : (places : List (Bor (List ℕ))) (word : List ℕ) (count : ℕ) → length word ≡ 0 → texts_of (take count places) ≡ texts_of (take count places) ++ words_of word
put_none places word count none = sym (ap (λ more. texts_of (take count places) ++ more) (words_empty word none) ∙ append-nil (texts_of (take count places)))

-- a word is put
pub put_one : (places : List (Bor (List ℕ))) (word : Bor (List ℕ)) (count : ℕ) → count < length places → IsUnbroken word.now → 0 < length word.now → texts_of (take (count + 1) (set places count word)) ≡ texts_of (take count places) ++ words_of word.now
put_one places word count within unbroken some =
    sym (cut_more (texts_of (take count places) ++ words_of word.now) places count word (words_of word.now) [] within refl (words_last word.now unbroken some ∙ ap (λ none. word.now ∷ none) words_none)
    ∙ append-nil (texts_of (take (count + 1) (set places count word))))
