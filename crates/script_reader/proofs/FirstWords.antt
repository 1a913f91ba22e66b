-- The first words of a line decide what it says: no form has as many as are looked at.
use Rattle.std.proofs.Common.{◌≡◌, Bor, get_or, ◌<◌, ◌≤◌, ℕ, zero, suc, Bool, true, false, List, [], ◌∷◌, length, take, min, refl, ap, sym, ◌∙◌, arith}
use Rattle.std.specs.Prelude.{◌==◌, ◌&&◌, ◌||◌, nat_lt, cond, find, slice_index, Option, Some, None, Result, Ok, Err}
use Rattle.std.specs.List.{list_any}
use Rattle.std.proofs.lemmas.List.{length-take}
use Rattle.std.proofs.lemmas.Bool.{ltb-true, cond-true, cond-false}
use Rattle.script_core.specs.declared.script.Header.{Header}
use Rattle.script_reader.specs.declared.fault.Cause.{Cause}
use Rattle.script_reader.specs.declared.fault.Cause.TheVariants.{Byte}
use Rattle.script_reader.specs.declared.form.Part.{Part}
use Rattle.script_reader.specs.declared.form.Form.{Form}
use Rattle.script_reader.specs.declared.form.Form.TheVariants as form
use Rattle.script_reader.specs.declared.said.Said.{Said}
use Rattle.script_reader.specs.declared.words.TheConstants.{MOST_WORDS}
use Rattle.script_reader.specs.Words.{is_comment, is_plain_text, texts_of, words_of}
use Rattle.script_reader.specs.Forms.{agrees, fits, found, form_among, form_of, forms, may_be, parts_of}
use Rattle.script_reader.specs.Said.{said_word, said_words, unsaid}
use Rattle.script_reader.specs.Rows.{row_in_text, row_in_words, row_said, row_spelled}

-- each form has fewer words than are looked at
few_parts : (one : Form) → nat_lt (length (parts_of one)) MOST_WORDS ≡ true
few_parts form.Centres = refl
few_parts _ = refl

-- words agree where the first of them do
agrees_first : (n : ℕ) (parts : List Part) (texts : List (List ℕ)) → length parts ≤ n → agrees parts (take n texts) ≡ agrees parts texts
agrees_first n [] texts few = refl
agrees_first zero (part ∷ parts) texts few = absurd (omega arith)
agrees_first (suc n) (part ∷ parts) [] few = refl
agrees_first (suc n) (part ∷ parts) (text ∷ texts) few = ap (λ b. may_be part text && b) (agrees_first n parts texts (omega arith))

-- there are as many of them as a number below where there are as many of the first
count_first : (n m k : ℕ) → m < n → (m == min n k) ≡ (m == k)
count_first n m k below = grind arith

-- words fit where the first of them do
fits_first : (n : ℕ) (parts : List Part) (texts : List (List ℕ)) → length parts < n → fits parts (take n texts) ≡ fits parts texts
fits_first n parts texts few =
    ap (λ b. b && agrees parts (take n texts)) (ap (λ k. length parts == k) (length-take n texts) ∙ count_first n (length parts) (length texts) few)
    ∙ ap (λ b. (length parts == length texts) && b) (agrees_first n parts texts (omega arith))

-- what is found by tests that are alike
find_alike : {X : Type 0} (p q : X → Bool) → ((x : X) → p x ≡ q x) → (xs : List X) → find p xs ≡ find q xs
find_alike p q same [] = refl
find_alike p q same (x ∷ xs) = ap (λ b. cond b (Some x) (find p xs)) (same x) ∙ ap (λ o. cond (q x) (Some x) o) (find_alike p q same xs)

any_alike : {X : Type 0} (p q : X → Bool) → ((x : X) → p x ≡ q x) → (xs : List X) → list_any p xs ≡ list_any q xs
any_alike p q same [] = refl
any_alike p q same (x ∷ xs) = ap (λ b. b || list_any p xs) (same x) ∙ ap (λ b. q x || b) (any_alike p q same xs)

-- a form's parts are fewer
fewer : (one : Form) → length (parts_of one) < MOST_WORDS
fewer one = ltb-true _ _ (few_parts one)

-- the form of words is that of the first of them
pub form_of_first : (texts : List (List ℕ)) → form_of (take MOST_WORDS texts) ≡ form_of texts
unfolding form_among
form_of_first texts =
    ap (λ o. found o (list_any (λ one. agrees (parts_of one) (take MOST_WORDS texts)) forms)) (find_alike _ _ (λ one. fits_first MOST_WORDS (parts_of one) texts (fewer one)) forms)
    ∙ ap (found (find (λ one. fits (parts_of one) texts) forms)) (any_alike _ _ (λ one. agrees_first MOST_WORDS (parts_of one) texts (let below = fewer one in omega arith)) forms)

-- what words say is what the first of them say
said_first : (n : ℕ) (header : Option Header) (parts : List Part) (texts : List (List ℕ)) (said : Said) → length parts ≤ n → said_words header parts (take n texts) said ≡ said_words header parts texts said
said_first n header [] texts said few = refl
said_first zero header (part ∷ parts) texts said few = absurd (omega arith)
said_first (suc n) header (part ∷ parts) [] said few = refl
said_first (suc n) header (part ∷ parts) (text ∷ texts) said few = go (said_word header part text said) (λ more. said_first n header parts texts more (omega arith))
  where
    onward : (List (List ℕ)) → Result Said Cause → Result Said Cause
    onward words (Ok more) = said_words header parts words more
    onward words (Err why) = Err why

    go : (one : Result Said Cause) → ((more : Said) → said_words header parts (take n texts) more ≡ said_words header parts texts more) → onward (take n texts) one ≡ onward texts one
    go (Ok more) same = same more
    go (Err why) same = refl

-- so is what a line of words says
pub row_first : (header : Option Header) (texts : List (List ℕ)) → row_in_words header (take MOST_WORDS texts) ≡ row_in_words header texts
row_first header texts = ap (row_spelled header (take MOST_WORDS texts)) (form_of_first texts) ∙ go (form_of texts)
  where
    go : (one : Result Form Cause) → row_spelled header (take MOST_WORDS texts) one ≡ row_spelled header texts one
    go (Ok one) = ap (row_said one) (said_first MOST_WORDS header (parts_of one) texts unsaid (let below = fewer one in omega arith))
    go (Err why) = refl

-- and whether it is a comment
comment_first : (texts : List (List ℕ)) → is_comment (take MOST_WORDS texts) ≡ is_comment texts
comment_first [] = refl
comment_first (text ∷ texts) = refl

-- which the first of them tells
comment_said : (words : List (Bor (List ℕ))) (none : Bor (List ℕ)) → 1 ≤ length words → is_comment (texts_of words) ≡ (slice_index (get_or words 0 none).now 0 == 35)
comment_said [] none some = absurd (omega arith)
comment_said (word ∷ words) none some = refl

pub comment_cut : (text : List ℕ) (words : List (Bor (List ℕ))) (none : Bor (List ℕ)) (letter : ℕ) → texts_of words ≡ take MOST_WORDS (words_of text) → 1 ≤ length words → letter ≡ slice_index (get_or words 0 none).now 0 → is_comment (words_of text) ≡ (letter == 35)
comment_cut text words none letter first some is = sym (comment_first (words_of text)) ∙ (ap is_comment (sym first) ∙ (comment_said words none some ∙ ap (λ l. l == 35) (sym is)))

-- no words are one
pub no_words_cut : (text : List ℕ) (words : List (Bor (List ℕ))) → texts_of words ≡ take MOST_WORDS (words_of text) → texts_of words ≡ [] → is_comment (words_of text) ≡ true
no_words_cut text words first none = sym (comment_first (words_of text)) ∙ (ap is_comment (sym first) ∙ ap is_comment none)

-- a line that is skipped
pub row_skipped : (header : Option Header) (text : List ℕ) → is_comment (words_of text) ≡ true → Ok None ≡ row_in_text header text
unfolding row_in_text
row_skipped header text comment = sym (cond-true _ _ _ comment)

-- one with a byte that may not stand in it
pub row_not_plain : (header : Option Header) (text : List ℕ) → is_comment (words_of text) ≡ false → is_plain_text text ≡ false → Err Byte ≡ row_in_text header text
unfolding row_in_text
row_not_plain header text no_comment not_plain = sym (cond-false _ _ _ no_comment ∙ cond-false _ _ _ not_plain)

-- any other
pub row_plain : (header : Option Header) (text : List ℕ) (words : List (Bor (List ℕ))) → texts_of words ≡ take MOST_WORDS (words_of text) → is_comment (words_of text) ≡ false → is_plain_text text ≡ true → row_in_words header (texts_of words) ≡ row_in_text header text
unfolding row_in_text
row_plain header text words first no_comment plain = ap (row_in_words header) first ∙ (row_first header (words_of text) ∙ sym (cond-false _ _ _ no_comment ∙ cond-true _ _ _ plain))
