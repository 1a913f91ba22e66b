-- Words of a form are as many as its parts.
use Rattle.std.proofs.Common.{◌≡◌, ℕ, Bool, true, false, List, [], ◌∷◌, Bor, length, refl, ap, sym, ◌∙◌}
use Rattle.std.specs.Prelude.{cond, find, Some, Result, Ok, Err, IfOk}
use Rattle.std.specs.List.{list_any}
use Rattle.std.proofs.lemmas.List.{length-map}
use Rattle.std.proofs.lemmas.Bool.{and_parts, eqb-true}
use Rattle.script_reader.specs.declared.fault.Cause.{Cause}
use Rattle.script_reader.specs.declared.form.Form.{Form}
use Rattle.script_reader.specs.Forms.{agrees, fits, found, form_among, form_of, forms, parts_of}
use Rattle.script_reader.specs.Words.{texts_of}

-- the form that is there
abbrev form_or : Form → Result Form Cause → Form
form_or one (Ok other) = other
form_or one (Err why) = one

-- what is found among forms fits
found_fits : (some : List Form) (texts : List (List ℕ)) (near : Bool) (one : Form) → found (find (λ f. fits (parts_of f) texts) some) near ≡ Ok one → fits (parts_of one) texts ≡ true
found_fits [] texts near one is = absurd (cc)
found_fits (f ∷ fs) texts near one is = go (fits (parts_of f) texts) refl (found_fits fs texts near one) is
  where
    go : (fit : Bool) → fits (parts_of f) texts ≡ fit → (found (find (λ g. fits (parts_of g) texts) fs) near ≡ Ok one → fits (parts_of one) texts ≡ true) → found (cond fit (Some f) (find (λ g. fits (parts_of g) texts) fs)) near ≡ Ok one → fits (parts_of one) texts ≡ true
    go true fit rest same = ap (λ g. fits (parts_of g) texts) (sym (ap (form_or f) same)) ∙ fit
    go false fit rest same = rest same

form_fits : (texts : List (List ℕ)) (one : Form) → form_of texts ≡ Ok one → length (parts_of one) ≡ length texts
unfolding form_among
form_fits texts one is = eqb-true _ _ (and_parts _ _ (found_fits forms texts (list_any (λ f. agrees (parts_of f) texts) forms) one is)).0

-- the same where they were cut off
pub form_counted : (words : List (Bor (List ℕ))) (said : Result Form Cause) → said ≡ form_of (texts_of words) → IfOk said (λ one. length words ≡ length (parts_of one))
form_counted words (Ok one) is = sym (form_fits (texts_of words) one (sym is) ∙ length-map words _)
form_counted words (Err why) is = tt
