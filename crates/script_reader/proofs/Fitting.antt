-- The form of words, found among forms one after another.
use Rattle.std.proofs.Common.{◌≡◌, ◌<◌, ◌≤◌, ◌+◌, ℕ, zero, suc, Bool, true, false, List, [], ◌∷◌, length, take, get_or, refl, ap, sym, ◌∙◌, arith}
use Rattle.std.specs.Prelude.{cond, find, Some, None, Ok, Err, ◌||◌}
use Rattle.std.specs.List.{list_any}
use Rattle.std.specs.Option.{option_or}
use Rattle.std.proofs.lemmas.List.{take_all, take_more}
use Rattle.std.proofs.lemmas.Bool.{or_right}
use Rattle.std.proofs.lemmas.List.Folds.{find-append, list_any-append}
use Rattle.script_reader.specs.declared.fault.Cause.{Cause}
use Rattle.script_reader.specs.declared.fault.Cause.TheVariants.{Count, Word}
use Rattle.script_reader.specs.declared.form.Part.{Part}
use Rattle.script_reader.specs.declared.form.Form.{Form}
use Rattle.script_reader.specs.Forms.{agrees, fits, found, form_among, parts_of}

-- no words agree with all parts
pub agrees_none : (parts : List Part) → agrees parts [] ≡ true
agrees_none [] = refl
agrees_none (part ∷ parts) = refl

-- a test or one that fails
or_false : (b : Bool) → (b || false) ≡ b
or_false true = refl
or_false false = refl

-- an element that does not pass, in front
found_behind : {X : Type 0} (p : X → Bool) (y : X) (ys front : List X) (x : X) → cond (p y) (Some y) (find p front) ≡ None → (find p front ≡ None → find p ys ≡ Some x) → cond (p y) (Some y) (find p ys) ≡ Some x
found_behind p y ys front x none rest = go (p y) none
  where
    go : (b : Bool) → cond b (Some y) (find p front) ≡ None → cond b (Some y) (find p ys) ≡ Some x
    go true bad = absurd (cc)
    go false e = rest e

-- the first element that passes, behind some that do not
pub found_at : {X : Type 0} (p : X → Bool) (xs : List X) (i : ℕ) (x : X) → i < length xs → find p (take i xs) ≡ None → get_or xs i x ≡ x → p x ≡ true → find p xs ≡ Some x
found_at p [] i x within none is passes = absurd (omega arith)
found_at p (y ∷ ys) zero x within none is passes = ap (λ z. cond (p z) (Some z) (find p ys)) is ∙ ap (λ b. cond b (Some x) (find p ys)) passes
found_at p (y ∷ ys) (suc i) x within none is passes = found_behind p y ys (take i ys) x none (λ rest. found_at p ys i x (omega arith) rest is passes)

-- one more that does not
pub none_more : {X : Type 0} (p : X → Bool) (xs : List X) (i : ℕ) (x : X) → i < length xs → find p (take i xs) ≡ None → get_or xs i x ≡ x → p x ≡ false → find p (take (i + 1) xs) ≡ None
none_more p xs i x within none is fails =
    ap (find p) (take_more xs i x within)
    ∙ (find-append p (take i xs) (get_or xs i x ∷ [])
    ∙ (ap (λ front. option_or front (find p (get_or xs i x ∷ []))) none
    ∙ (ap (λ z. cond (p z) (Some z) None) is ∙ ap (λ b. cond b (Some x) None) fails)))

-- whether one more passes
pub any_more : {X : Type 0} (p : X → Bool) (xs : List X) (i : ℕ) (x : X) → i < length xs → get_or xs i x ≡ x → list_any p (take (i + 1) xs) ≡ (list_any p (take i xs) || p x)
any_more p xs i x within is =
    ap (list_any p) (take_more xs i x within)
    ∙ (list_any-append p (take i xs) (get_or xs i x ∷ []) ∙ go (list_any p (take i xs)))
  where
    go : (b : Bool) → (b || (p (get_or xs i x) || false)) ≡ (b || p x)
    go b = ap (λ c. b || c) (or_false (p (get_or xs i x)) ∙ ap p is)

-- the form that the words have
pub form_found : (forms : List Form) (texts : List (List ℕ)) (i : ℕ) (one : Form) → i < length forms → find (λ f. fits (parts_of f) texts) (take i forms) ≡ None → get_or forms i one ≡ one → true ≡ fits (parts_of one) texts → Ok one ≡ form_among forms texts
unfolding form_among
form_found forms texts i one within none is fit = sym (ap (λ f. found f (list_any (λ f. agrees (parts_of f) texts) forms)) (found_at (λ f. fits (parts_of f) texts) forms i one within none is (sym fit)))

-- none of them
pub form_missed : (forms : List Form) (texts : List (List ℕ)) (i : ℕ) (why : Cause) → length forms ≤ i → find (λ f. fits (parts_of f) texts) (take i forms) ≡ None → why ≡ cond (list_any (λ f. agrees (parts_of f) texts) (take i forms)) Count Word → Err why ≡ form_among forms texts
unfolding form_among
form_missed forms texts i why all none is =
    let whole = take_all i forms all in
    ap Err (is ∙ ap (λ fs. cond (list_any (λ f. agrees (parts_of f) texts) fs) Count Word) whole)
    ∙ sym (ap (λ f. found f (list_any (λ f. agrees (parts_of f) texts) forms)) (sym (ap (find (λ f. fits (parts_of f) texts)) whole) ∙ none))

-- one more of which the fixed words stand in their places
pub form_near : (forms : List Form) (texts : List (List ℕ)) (i : ℕ) (one : Form) (why : Cause) → i < length forms → get_or forms i one ≡ one → true ≡ agrees (parts_of one) texts → why ≡ Count → why ≡ cond (list_any (λ f. agrees (parts_of f) texts) (take (i + 1) forms)) Count Word
form_near forms texts i one why within is near count = count ∙ sym (ap (λ b. cond b Count Word) (any_more (λ f. agrees (parts_of f) texts) forms i one within is ∙ or_right _ _ (sym near)))

-- one more of which they do not
pub form_far : (forms : List Form) (texts : List (List ℕ)) (i : ℕ) (one : Form) (why old : Cause) → i < length forms → get_or forms i one ≡ one → false ≡ agrees (parts_of one) texts → why ≡ old → old ≡ cond (list_any (λ f. agrees (parts_of f) texts) (take i forms)) Count Word → why ≡ cond (list_any (λ f. agrees (parts_of f) texts) (take (i + 1) forms)) Count Word
form_far forms texts i one why old within is far same before =
    let q = λ (f : Form). agrees (parts_of f) texts in
    same ∙ (before ∙ ap (λ b. cond b Count Word) (sym (any_more q forms i one within is ∙ (ap (λ b. list_any q (take i forms) || b) (sym far) ∙ or_false (list_any q (take i forms))))))

-- one more that the words do not have
pub none_form_more : (forms : List Form) (texts : List (List ℕ)) (i : ℕ) (one : Form) → i < length forms → find (λ f. fits (parts_of f) texts) (take i forms) ≡ None → get_or forms i one ≡ one → false ≡ fits (parts_of one) texts → find (λ f. fits (parts_of f) texts) (take (i + 1) forms) ≡ None
none_form_more forms texts i one within none is fails = none_more (λ f. fits (parts_of f) texts) forms i one within none is (sym fails)
