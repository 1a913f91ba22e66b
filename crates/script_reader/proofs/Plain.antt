-- Lines whose bytes may stand in one that is not skipped.
use Rattle.std.proofs.Common.{◌≡◌, ◌≢◌, ◌-◌, ◌==◌, ℕ, true, false, List, [], ◌∷◌, length, take, refl, ap, ◌∙◌, arith}
use Rattle.std.specs.Prelude.{All, slice_index}
use Rattle.std.proofs.lemmas.Bool.{and_parts, and_from, cond-false}
use Rattle.std.proofs.lemmas.List.Elements.{All-nil, All-cons, All-head, All-tail, All-weaker}
use Rattle.script_reader.specs.Words.{is_blank, is_plain, is_plain_text, is_hidden, is_shown, without_return}

no_return : (b : ℕ) → is_plain b ≡ true → (b == 13) ≡ false
no_return b plain = grind arith

-- the last byte of a plain line is no carriage return
last_plain : (b : ℕ) (bs : List ℕ) → is_plain_text (b ∷ bs) ≡ true → (slice_index (b ∷ bs) (length bs) == 13) ≡ false
last_plain b [] all = no_return b (and_parts _ _ all).0
last_plain b (d ∷ ds) all = last_plain d ds (and_parts _ _ all).1

-- so none is taken away
pub plain_has_no_return : (line : List ℕ) → is_plain_text line ≡ true → without_return line ≡ line
plain_has_no_return [] all = refl
plain_has_no_return (b ∷ bs) all =
    let last : length (b ∷ bs) - 1 ≡ length bs = omega arith in
    cond-false (slice_index (b ∷ bs) (length (b ∷ bs) - 1) == 13) (take (length (b ∷ bs) - 1) (b ∷ bs)) (b ∷ bs) (ap (λ n. slice_index (b ∷ bs) n == 13) last ∙ last_plain b bs all)

shown_plain : (b : ℕ) → is_hidden b ≡ false → is_plain b ≡ true
shown_plain b shown = grind arith

-- bytes that show are plain
pub all_plain : (line : List ℕ) → All (λ b. is_hidden b ≡ false) line → is_plain_text line ≡ true
all_plain [] all = refl
all_plain (b ∷ bs) all = and_from _ _ (shown_plain b (All-head (λ b. is_hidden b ≡ false) b bs all)) (all_plain bs (All-tail (λ b. is_hidden b ≡ false) b bs all))

shown_no_feed : (b : ℕ) → is_hidden b ≡ false → b ≢ 10
shown_no_feed b shown = grind arith

-- none of them is a line feed
pub no_feed : (line : List ℕ) → All (λ b. is_hidden b ≡ false) line → All (λ b. b ≢ 10) line
no_feed [] all = All-nil (λ b. b ≢ 10)
no_feed (b ∷ bs) all = All-cons (λ b. b ≢ 10) b bs (shown_no_feed b (All-head (λ b. is_hidden b ≡ false) b bs all)) (no_feed bs (All-tail (λ b. is_hidden b ≡ false) b bs all))

-- so are those of a word, which hold no blank
word_not_hidden : (b : ℕ) → is_shown b ≡ true → is_hidden b ≡ false
word_not_hidden b shown = grind arith

word_not_blank : (b : ℕ) → is_shown b ≡ true → is_blank b ≡ false
word_not_blank b shown = grind arith

pub all_shown : (word : List ℕ) → All (λ b. is_shown b ≡ true) word → All (λ b. is_hidden b ≡ false) word
all_shown word all = All-weaker (λ b. is_shown b ≡ true) (λ b. is_hidden b ≡ false) word_not_hidden word all

pub all_unbroken : (word : List ℕ) → All (λ b. is_shown b ≡ true) word → All (λ b. is_blank b ≡ false) word
all_unbroken word all = All-weaker (λ b. is_shown b ≡ true) (λ b. is_blank b ≡ false) word_not_blank word all
