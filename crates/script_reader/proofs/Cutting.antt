-- Words that are put in their places one after another.
use Rattle.std.proofs.Common.{◌≡◌, ◌<◌, ◌≤◌, ◌+◌, ℕ, List, [], ◌∷◌, ◌++◌, Bor, length, set, take, refl, ap, sym, ◌∙◌, arith, append_assoc, append-nil}
use Rattle.std.proofs.lemmas.List.{length-take, length-map, map-append, take_all, take-append-le, take_more_set}
use Rattle.script_reader.specs.declared.words.TheConstants.{MOST_WORDS}
use Rattle.script_reader.specs.Words.{texts_of, words_of}

-- one more word
pub cut_more : (all : List (List ℕ)) (places : List (Bor (List ℕ))) (count : ℕ) (word : Bor (List ℕ)) (rest more : List (List ℕ)) → count < length places → all ≡ texts_of (take count places) ++ rest → rest ≡ word.now ∷ more → all ≡ texts_of (take (count + 1) (set places count word)) ++ more
cut_more all places count word rest more within is cut =
    is ∙ (ap (λ r. texts_of (take count places) ++ r) cut
    ∙ (sym (append_assoc (texts_of (take count places)) (word.now ∷ []) more)
    ∙ ap (λ front. front ++ more) (sym (ap texts_of (take_more_set places count word within) ∙ map-append _ (take count places) (word ∷ [])))))

-- all words have a place
pub cut_all : (all : List (List ℕ)) (places : List (Bor (List ℕ))) (count : ℕ) (rest : List (List ℕ)) → count ≤ length places → all ≡ texts_of (take count places) ++ rest → rest ≡ [] → texts_of (take count places) ≡ take (length places) all
cut_all all places count rest within is none =
    let whole : all ≡ texts_of (take count places) = is ∙ (ap (λ r. texts_of (take count places) ++ r) none ∙ append-nil (texts_of (take count places))) in
    let size : length (texts_of (take count places)) ≤ length places = let long = length-map (take count places) (λ (w : Bor (List ℕ)). w.now) in let short = length-take count places in omega arith in
    sym (ap (take (length places)) whole ∙ take_all (length places) (texts_of (take count places)) size)

-- all places are taken
pub cut_full : (all : List (List ℕ)) (places : List (Bor (List ℕ))) (rest : List (List ℕ)) → all ≡ texts_of (take (length places) places) ++ rest → texts_of (take (length places) places) ≡ take (length places) all
cut_full all places rest is =
    let size : length (texts_of (take (length places) places)) ≡ length places = let long = length-map (take (length places) places) (λ (w : Bor (List ℕ)). w.now) in let short = length-take (length places) places in omega arith in
    sym (ap (take (length places)) is ∙ (take-append-le (length places) (texts_of (take (length places) places)) rest (omega arith) ∙ take_all (length places) (texts_of (take (length places) places)) (omega arith)))

-- no words are no texts
pub texts_none : (words : List (Bor (List ℕ))) → length words < 1 → texts_of words ≡ []
texts_none [] none = refl
texts_none (word ∷ words) none = absurd (omega arith)

-- words that are all of a text are the first of them, where they are few
pub all_cut : (words : List (Bor (List ℕ))) (text : List ℕ) → length words ≤ MOST_WORDS → texts_of words ≡ words_of text → texts_of words ≡ take MOST_WORDS (words_of text)
all_cut words text few is =
    let size : length (words_of text) ≤ MOST_WORDS = let same = ap length is in let long = length-map words (λ (w : Bor (List ℕ)). w.now) in omega arith in
    is ∙ sym (take_all MOST_WORDS (words_of text) size)
