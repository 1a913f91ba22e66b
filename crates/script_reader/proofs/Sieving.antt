-- The form of words, found among some of all forms: none of the others has its fixed words in their places.
use Rattle.std.proofs.Common.{◌≡◌, ℕ, Bool, true, false, ◌≤◌, ◌-◌, List, [], ◌∷◌, Bor, drop, get_or, length, take, refl, ap, sym, ◌∙◌, suc, arith}
use Rattle.std.specs.Prelude.{◌&&◌, ◌||◌, ◌==◌, not, cond, find, filter, slice_index, Some, None, Ok, Err, bytes_eq}
use Rattle.std.specs.List.{list_any, list_all}
use Rattle.std.proofs.lemmas.Bool.{false≢true, eq-eqb, and_from}
use Rattle.std.proofs.lemmas.List.{length-drop, length-map, take_all}
use Rattle.std.proofs.lemmas.Slice.Eq.{bytes_eq-Decides}
use Rattle.script_reader.specs.declared.fault.Cause.TheVariants.{Count as too_many}
use Rattle.script_reader.specs.declared.form.Part.{Part}
use Rattle.script_reader.specs.declared.form.Part.TheVariants.{Fixed, Client, Holder}
use Rattle.script_reader.specs.declared.form.Form.{Form}
use Rattle.script_reader.specs.declared.form.Form.TheVariants as form
use Rattle.script_reader.specs.Forms.{agrees, fits, found, form_among, form_of, forms, is_client_word, parts_of, word_text}
use Rattle.script_reader.specs.Words.{texts_of}
use Rattle.script_reader.specs.Leads.{are_open, client_forms, first_fixed, forms_from, lead, names_client, verb_forms}

-- what a test keeps is all that another one passes of elements of a sort
record Keeps {X : Type 0} (sort keeps passes : X → Bool) : Type 0 where
  kept : (x : X) → sort x ≡ true → passes x ≡ true → keeps x ≡ true

-- a sort that all elements have
sort_head : (b c : Bool) → (b && c) ≡ true → b ≡ true
sort_head true c all = refl
sort_head false c all = all

sort_tail : (b c : Bool) → (b && c) ≡ true → c ≡ true
sort_tail true c all = all
sort_tail false c all = absurd (false≢true all)

-- the first that passes is among those that are kept
find_kept : {X : Type 0} (sort keeps passes : X → Bool) → Keeps sort keeps passes → (xs : List X) → list_all sort xs ≡ true → find passes (filter keeps xs) ≡ find passes xs
find_kept sort keeps passes h [] all = refl
find_kept sort keeps passes h (x ∷ xs) all =
    go (keeps x) (passes x) (h.kept x (sort_head (sort x) (list_all sort xs) all)) refl refl (find_kept sort keeps passes h xs (sort_tail (sort x) (list_all sort xs) all))
  where
    go : (k p : Bool) → (passes x ≡ true → keeps x ≡ true) → keeps x ≡ k → passes x ≡ p → find passes (filter keeps xs) ≡ find passes xs → find passes (cond k (x ∷ filter keeps xs) (filter keeps xs)) ≡ cond p (Some x) (find passes xs)
    go true p kept is passed rest = ap (λ b. cond b (Some x) (find passes (filter keeps xs))) passed ∙ ap (λ o. cond p (Some x) o) rest
    go false true kept is passed rest = absurd (false≢true (sym is ∙ kept passed))
    go false false kept is passed rest = rest

-- so is whether one does
any_kept : {X : Type 0} (sort keeps passes : X → Bool) → Keeps sort keeps passes → (xs : List X) → list_all sort xs ≡ true → list_any passes (filter keeps xs) ≡ list_any passes xs
any_kept sort keeps passes h [] all = refl
any_kept sort keeps passes h (x ∷ xs) all =
    go (keeps x) (passes x) (h.kept x (sort_head (sort x) (list_all sort xs) all)) refl refl (any_kept sort keeps passes h xs (sort_tail (sort x) (list_all sort xs) all))
  where
    go : (k p : Bool) → (passes x ≡ true → keeps x ≡ true) → keeps x ≡ k → passes x ≡ p → list_any passes (filter keeps xs) ≡ list_any passes xs → list_any passes (cond k (x ∷ filter keeps xs) (filter keeps xs)) ≡ (p || list_any passes xs)
    go true p kept is passed rest = ap (λ b. b || list_any passes (filter keeps xs)) passed ∙ ap (λ b. p || b) rest
    go false true kept is passed rest = absurd (false≢true (sym is ∙ kept passed))
    go false false kept is passed rest = rest

-- the form of words is among those that are kept
form_kept : (sort keeps : Form → Bool) (texts : List (List ℕ)) → Keeps sort keeps (λ one. agrees (parts_of one) texts) → list_all sort forms ≡ true → form_among (filter keeps forms) texts ≡ form_of texts
unfolding form_among
form_kept sort keeps texts h all =
    ap (λ o. found o (list_any (λ one. agrees (parts_of one) texts) (filter keeps forms))) (find_kept sort keeps (λ one. fits (parts_of one) texts) (record { kept = λ one is fit. h.kept one is (sort_tail _ (agrees (parts_of one) texts) fit) }) forms all)
    ∙ ap (found (find (λ one. fits (parts_of one) texts) forms)) (any_kept sort keeps (λ one. agrees (parts_of one) texts) h forms all)

-- a fixed word stands in front, which is no client's, or a client and then a fixed word
abbrev is_led : List Part → Bool
is_led (Fixed own ∷ parts) = not (is_client_word (word_text own))
is_led (Client ∷ Fixed own ∷ parts) = true
is_led (Holder ∷ Fixed own ∷ parts) = true
is_led _ = false

-- a word that is a fixed one begins as it does
same_letter : (own text : List ℕ) → bytes_eq text own ≡ true → (slice_index own 0 == slice_index text 0) ≡ true
same_letter own text same = eq-eqb _ _ (sym (ap (λ word. slice_index word 0) ((bytes_eq-Decides text own).0 same)))

-- no fixed word in front is a client's word
not_both : (own first : List ℕ) → is_client_word first ≡ true → not (is_client_word own) ≡ true → bytes_eq first own ≡ true → ⊥
not_both own first client fixed same = false≢true (sym (ap (λ word. not (is_client_word word)) (sym ((bytes_eq-Decides first own).0 same)) ∙ ap not client) ∙ fixed)

-- the forms behind a client: its second word begins as the one of the line does
led_by_client : (parts : List Part) (first verb : List ℕ) (rest : List (List ℕ)) → is_client_word first ≡ true → is_led parts ≡ true → agrees parts (first ∷ verb ∷ rest) ≡ true → (names_client parts && lead parts == slice_index verb 0) ≡ true
led_by_client (Fixed own ∷ parts) first verb rest client led near = absurd (not_both (word_text own) first client led (sort_head (bytes_eq first (word_text own)) (agrees parts (verb ∷ rest)) near))
led_by_client (Client ∷ Fixed own ∷ parts) first verb rest client led near = same_letter (word_text own) verb (sort_head (bytes_eq verb (word_text own)) (agrees parts rest) (sort_tail (is_client_word first) _ near))
led_by_client (Holder ∷ Fixed own ∷ parts) first verb rest client led near = same_letter (word_text own) verb (sort_head (bytes_eq verb (word_text own)) (agrees parts rest) (sort_tail (is_client_word first) _ near))
led_by_client _ first verb rest client led near = absurd (false≢true led)

-- the others: their first word begins as the one of the line does
led_by_word : (parts : List Part) (first : List ℕ) (rest : List (List ℕ)) → is_client_word first ≡ false → is_led parts ≡ true → agrees parts (first ∷ rest) ≡ true → (not (names_client parts) && lead parts == slice_index first 0) ≡ true
led_by_word (Fixed own ∷ parts) first rest other led near = same_letter (word_text own) first (sort_head (bytes_eq first (word_text own)) (agrees parts rest) near)
led_by_word (Client ∷ Fixed own ∷ parts) first rest other led near = absurd (false≢true (sym other ∙ sort_head (is_client_word first) (agrees (Fixed own ∷ parts) rest) near))
led_by_word (Holder ∷ Fixed own ∷ parts) first rest other led near = absurd (false≢true (sym other ∙ sort_head (is_client_word first) (agrees (Fixed own ∷ parts) rest) near))
led_by_word _ first rest other led near = absurd (false≢true led)

-- the form of words behind a client
pub form_of_client : (first verb : List ℕ) (rest : List (List ℕ)) → is_client_word first ≡ true → form_among (client_forms (slice_index verb 0)) (first ∷ verb ∷ rest) ≡ form_of (first ∷ verb ∷ rest)
unfolding client_forms
form_of_client first verb rest client = form_kept (λ one. is_led (parts_of one)) _ (first ∷ verb ∷ rest) (record { kept = λ one led near. led_by_client (parts_of one) first verb rest client led near }) refl

-- the form of other words
pub form_of_others : (first : List ℕ) (rest : List (List ℕ)) → is_client_word first ≡ false → form_among (forms_from (slice_index first 0)) (first ∷ rest) ≡ form_of (first ∷ rest)
unfolding forms_from
form_of_others first rest other = form_kept (λ one. is_led (parts_of one)) _ (first ∷ rest) (record { kept = λ one led near. led_by_word (parts_of one) first rest other led near }) refl

-- the words behind the first one
behind_first : (words : List (Bor (List ℕ))) → take (length words - 1) (drop 1 words) ≡ drop 1 words
behind_first words = take_all (length words - 1) (drop 1 words) (let shorter = length-drop 1 words in omega arith)

-- the same where the words were cut off
client_cut : (words : List (Bor (List ℕ))) (none : Bor (List ℕ)) → 1 ≤ length (drop 1 words) → is_client_word (get_or words 0 none).now ≡ true → form_among (client_forms (slice_index (get_or (drop 1 words) 0 none).now 0)) (texts_of words) ≡ form_of (texts_of words)
client_cut [] none two client = absurd (omega arith)
client_cut (first ∷ []) none two client = absurd (omega arith)
client_cut (first ∷ verb ∷ words) none two client = form_of_client first.now verb.now (texts_of words) client

pub client_words : (words : List (Bor (List ℕ))) (none : Bor (List ℕ)) (letter : ℕ) → 1 ≤ length (take (length words - 1) (drop 1 words)) → is_client_word (get_or words 0 none).now ≡ true → letter ≡ slice_index (get_or (take (length words - 1) (drop 1 words)) 0 none).now 0 → form_among (client_forms letter) (texts_of words) ≡ form_of (texts_of words)
client_words words none letter two client is =
    ap (λ l. form_among (client_forms l) (texts_of words)) (is ∙ ap (λ others. slice_index (get_or others 0 none).now 0) (behind_first words))
    ∙ client_cut words none (let some = ap length (behind_first words) in omega arith) client

pub other_words : (words : List (Bor (List ℕ))) (none : Bor (List ℕ)) (letter : ℕ) → 1 ≤ length words → is_client_word (get_or words 0 none).now ≡ false → letter ≡ slice_index (get_or words 0 none).now 0 → form_among (forms_from letter) (texts_of words) ≡ form_of (texts_of words)
other_words [] none letter some other is = absurd (omega arith)
other_words (first ∷ words) none letter some other is = ap (λ l. form_among (forms_from l) (first.now ∷ texts_of words)) is ∙ form_of_others first.now (texts_of words) other

-- the forms behind a client with the word of the line behind it
named_by_client : (parts : List Part) (first verb : List ℕ) (rest : List (List ℕ)) → is_client_word first ≡ true → is_led parts ≡ true → agrees parts (first ∷ verb ∷ rest) ≡ true → (names_client parts && bytes_eq verb (first_fixed parts)) ≡ true
named_by_client (Fixed own ∷ parts) first verb rest client led near = absurd (not_both (word_text own) first client led (sort_head (bytes_eq first (word_text own)) (agrees parts (verb ∷ rest)) near))
named_by_client (Client ∷ Fixed own ∷ parts) first verb rest client led near = sort_head (bytes_eq verb (word_text own)) (agrees parts rest) (sort_tail (is_client_word first) _ near)
named_by_client (Holder ∷ Fixed own ∷ parts) first verb rest client led near = sort_head (bytes_eq verb (word_text own)) (agrees parts rest) (sort_tail (is_client_word first) _ near)
named_by_client _ first verb rest client led near = absurd (false≢true led)

-- the form of words behind a client, by the second one
form_of_named : (first verb : List ℕ) (rest : List (List ℕ)) → is_client_word first ≡ true → form_among (verb_forms verb) (first ∷ verb ∷ rest) ≡ form_of (first ∷ verb ∷ rest)
unfolding verb_forms
form_of_named first verb rest client = form_kept (λ one. is_led (parts_of one)) _ (first ∷ verb ∷ rest) (record { kept = λ one led near. named_by_client (parts_of one) first verb rest client led near }) refl

-- any words agree with parts that are open
open_agrees : (parts : List Part) (texts : List (List ℕ)) → are_open parts ≡ true → agrees parts texts ≡ true
open_agrees [] texts are = refl
open_agrees (part ∷ parts) [] are = refl
open_agrees (Fixed own ∷ parts) (text ∷ texts) are = absurd (false≢true are)
open_agrees (Client ∷ parts) (text ∷ texts) are = absurd (false≢true are)
open_agrees (Holder ∷ parts) (text ∷ texts) are = absurd (false≢true are)
open_agrees (part ∷ parts) (text ∷ texts) are = open_agrees parts texts are

-- what is kept first passes the test
kept_first : {X : Type 0} (keeps : X → Bool) (xs : List X) (y : X) (ys : List X) → filter keeps xs ≡ y ∷ ys → keeps y ≡ true
kept_first keeps [] y ys is = absurd (cc)
kept_first keeps (x ∷ xs) y ys is = go (keeps x) refl (kept_first keeps xs y ys) is
  where
    go : (b : Bool) → keeps x ≡ b → (filter keeps xs ≡ y ∷ ys → keeps y ≡ true) → cond b (x ∷ filter keeps xs) (filter keeps xs) ≡ y ∷ ys → keeps y ≡ true
    go true kept rest same = ap keeps (sym (ap (λ l. get_or l 0 y) same)) ∙ kept
    go false kept rest same = rest same

-- each form is led by a fixed word, or by a client and one
led : (one : Form) → is_led (parts_of one) ≡ true
led form.Centres = refl
led _ = refl

-- words agree with the parts of a form that the second one names, where any others do
agrees_named : (parts : List Part) (first verb : List ℕ) (rest : List (List ℕ)) → is_client_word first ≡ true → is_led parts ≡ true → (names_client parts && bytes_eq verb (first_fixed parts)) ≡ true → are_open (drop 2 parts) ≡ true → agrees parts (first ∷ verb ∷ rest) ≡ true
agrees_named (Client ∷ Fixed own ∷ parts) first verb rest client led named are = and_from _ _ client (and_from _ _ named (open_agrees parts rest are))
agrees_named (Holder ∷ Fixed own ∷ parts) first verb rest client led named are = and_from _ _ client (and_from _ _ named (open_agrees parts rest are))
agrees_named (Fixed own ∷ parts) first verb rest client led named are = absurd (false≢true named)
agrees_named _ first verb rest client led named are = absurd (false≢true led)

-- of one form alone, whose fixed words stand in their places, the number of words decides
form_alone : (one : Form) (texts : List (List ℕ)) → agrees (parts_of one) texts ≡ true → form_among (one ∷ []) texts ≡ cond (length (parts_of one) == length texts) (Ok one) (Err too_many)
unfolding form_among
form_alone one texts near = go (length (parts_of one) == length texts) (agrees (parts_of one) texts) near
  where
    go : (same near : Bool) → near ≡ true → found (cond (same && near) (Some one) None) (near || false) ≡ cond same (Ok one) (Err too_many)
    go true true is = refl
    go false true is = refl
    go same false is = absurd (false≢true is)

-- the form of words behind a client, where the second one names it
form_named : (one : Form) (first verb : List ℕ) (rest : List (List ℕ)) → is_client_word first ≡ true → verb_forms verb ≡ one ∷ [] → are_open (drop 2 (parts_of one)) ≡ true → form_of (first ∷ verb ∷ rest) ≡ cond (length (parts_of one) == length (first ∷ verb ∷ rest)) (Ok one) (Err too_many)
unfolding verb_forms
form_named one first verb rest client is are =
    sym (form_of_named first verb rest client)
    ∙ (ap (λ some. form_among some (first ∷ verb ∷ rest)) is
    ∙ form_alone one (first ∷ verb ∷ rest) (agrees_named (parts_of one) first verb rest client (led one) (kept_first (λ f. names_client (parts_of f) && bytes_eq verb (first_fixed (parts_of f))) forms one [] is) are))

-- the same where the words were cut off
pub named_cut : (one : Form) (words : List (Bor (List ℕ))) (none : Bor (List ℕ)) → 2 ≤ length words → is_client_word (get_or words 0 none).now ≡ true → verb_forms (get_or words 1 none).now ≡ one ∷ [] → are_open (drop 2 (parts_of one)) ≡ true → form_of (texts_of words) ≡ cond (length (parts_of one) == length words) (Ok one) (Err too_many)
named_cut one [] none two client is are = absurd (omega arith)
named_cut one (first ∷ []) none two client is are = absurd (omega arith)
named_cut one (first ∷ verb ∷ words) none two client is are =
    form_named one first.now verb.now (texts_of words) client is are
    ∙ ap (λ n. cond (length (parts_of one) == suc (suc n)) (Ok one) (Err too_many)) (length-map words _)
