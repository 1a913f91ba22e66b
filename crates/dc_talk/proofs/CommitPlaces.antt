-- The places of first commit asks, as a log grows.
use Rattle.std.proofs.Common.{◌≡◌, ◌⊎◌, inl, inr, ℕ, zero, suc, true, false, cond, List, [], ◌∷◌, ◌++◌, length, Option, Some, None, refl, sym, ap, ◌∙◌, arith}
use Rattle.std.specs.Prelude.{◌==◌}
use Rattle.std.specs.Option.{option_and_then, option_or}
use Rattle.std.specs.Ordering.{nat_cmp}
use Rattle.std.specs.Map.{lookup}
use Rattle.std.specs.BTreeMap.{is_at}
use Rattle.std.proofs.lemmas.Bool.{cases_Bool, eqb-true}
use Rattle.std.proofs.lemmas.Bool.Decides.{nat_tests}
use Rattle.list_core.specs.Choices.{when}
use Rattle.tx_core.specs.declared.tx.Tx.{Tx}
use Rattle.dc_talk.specs.declared.log.Deed.{Deed}
use Rattle.dc_talk.specs.declared.log.Note.{Note}
use Rattle.dc_talk.specs.Logs.{marked, commit_of, commit_asked, commit_sent}
use Rattle.dc_talk.specs.CommitPlaces.{commit_at, LeadToFirsts}

-- ---- one note more

or_none : (o : Option Tx) → option_or o None ≡ o
or_none None = refl
or_none (Some tx) = refl

or_assoc : (o p q : Option Tx) → option_or o (option_or p q) ≡ option_or (option_or o p) q
or_assoc None p q = refl
or_assoc (Some tx) p q = refl

-- the first commit ask of a number is one of the notes before, or else the last note
sent_last : (number : ℕ) (notes : List Note) (note : Note) → commit_sent number (notes ++ note ∷ []) ≡ option_or (commit_sent number notes) (commit_asked number note.deed)
sent_last number [] note = or_none (commit_asked number note.deed)
sent_last number (first ∷ notes) note = ap (option_or (commit_asked number first.deed)) (sent_last number notes note) ∙ or_assoc (commit_asked number first.deed) (commit_sent number notes) (commit_asked number note.deed)

-- what stands at a place stands there later, but that a last note may stand where none did
place_last : (number : ℕ) (notes : List Note) (note : Note) (place : ℕ) → option_or (commit_at number notes (Some place)) (commit_asked number note.deed) ≡ commit_at number notes (Some place) → commit_at number (notes ++ note ∷ []) (Some place) ≡ commit_at number notes (Some place)
place_last number [] note zero none = none
place_last number [] note (suc place) none = refl
place_last number (first ∷ notes) note zero none = refl
place_last number (first ∷ notes) note (suc place) none = place_last number notes note place none

at_last : (number : ℕ) (notes : List Note) (note : Note) (o : Option ℕ) → option_or (commit_at number notes o) (commit_asked number note.deed) ≡ commit_at number notes o → commit_at number (notes ++ note ∷ []) o ≡ commit_at number notes o
at_last number notes note None none = refl
at_last number notes note (Some place) none = place_last number notes note place none

-- at the place behind the notes stands none, and then the last one
at_end : (number : ℕ) (notes : List Note) → commit_at number notes (Some (length notes)) ≡ None
at_end number [] = refl
at_end number (first ∷ notes) = at_end number notes

at_seam : (number : ℕ) (notes : List Note) (note : Note) → commit_at number (notes ++ note ∷ []) (Some (length notes)) ≡ commit_asked number note.deed
at_seam number [] note = refl
at_seam number (first ∷ notes) note = at_seam number notes note

-- ---- the places lead to the first commit asks

-- what is asked with a number, where the transaction of the deed is known
asked_where : (number : ℕ) (deed : Deed) (o : Option Tx) → commit_of deed ≡ o → commit_asked number deed ≡ option_and_then (λ tx. when (tx.dot.number == number) tx) o
asked_where number deed o is = ap (option_and_then (λ tx. when (tx.dot.number == number) tx)) is

-- a note that is the first commit ask of no number needs no place
lead_last : (places : List (ℕ × ℕ)) (notes : List Note) (note : Note) → LeadToFirsts places notes → ((number : ℕ) → option_or (commit_sent number notes) (commit_asked number note.deed) ≡ commit_sent number notes) → LeadToFirsts places (notes ++ note ∷ [])
lead_last places notes note lead none number =
    let place = lookup (is_at (nat_cmp number)) places in
    let same = ap (λ o. option_or o (commit_asked number note.deed)) (lead number) ∙ none number ∙ sym (lead number) in
    at_last number notes note place same ∙ lead number ∙ sym (none number) ∙ sym (sent_last number notes note)

-- nor does one that is no commit ask
pub lead_other : (places : List (ℕ × ℕ)) (notes : List Note) (deed : Deed) → LeadToFirsts places notes → commit_of deed ≡ None → (section step : ℕ) → LeadToFirsts places (notes ++ marked section step deed ∷ [])
lead_other places notes deed lead none section step = lead_last places notes (marked section step deed) lead (λ number. ap (option_or (commit_sent number notes)) (asked_where number deed None none) ∙ or_none (commit_sent number notes))

-- nor does a later commit ask of a number
pub lead_later : (places : List (ℕ × ℕ)) (notes : List Note) (deed : Deed) (tx first : Tx) → LeadToFirsts places notes → commit_of deed ≡ Some tx → commit_sent tx.dot.number notes ≡ Some first → (section step : ℕ) → LeadToFirsts places (notes ++ marked section step deed ∷ [])
lead_later places notes deed tx first lead commit sent section step =
    lead_last places notes (marked section step deed) lead (λ number. ap (option_or (commit_sent number notes)) (asked_where number deed (Some tx) commit) ∙ at number (cases_Bool (tx.dot.number == number)))
  where
    at : (number : ℕ) → (tx.dot.number == number ≡ true) ⊎ (tx.dot.number == number ≡ false) → option_or (commit_sent number notes) (when (tx.dot.number == number) tx) ≡ commit_sent number notes
    at number (inl is) =
        let there : commit_sent number notes ≡ Some first = ap (λ n. commit_sent n notes) (sym (eqb-true tx.dot.number number is)) ∙ sent in
        ap (λ o. option_or o (when (tx.dot.number == number) tx)) there ∙ sym there
    at number (inr not) = ap (λ b. option_or (commit_sent number notes) (when b tx)) not ∙ or_none (commit_sent number notes)

-- the second places have a place of the number, and for each other one what the first have
abbrev pub Places : List (ℕ × ℕ) → List (ℕ × ℕ) → ℕ → ℕ → Type 0
Places old new number place = (q : ℕ) → lookup (is_at (nat_cmp q)) new ≡ cond (is_at (nat_cmp number) q) (Some place) (lookup (is_at (nat_cmp q)) old)

-- the test of a key is that of the number
same_test : (m n : ℕ) → is_at (nat_cmp m) n ≡ (m == n)
same_test m n = grind (arith, nat_tests)

module _ (old new : List (ℕ × ℕ)) (notes : List Note) (tx : Tx) (lead : LeadToFirsts old notes) (none : commit_sent tx.dot.number notes ≡ None) (placed : Places old new tx.dot.number (length notes)) where
  -- the place that is found at a number
  place_at : (number : ℕ) → lookup (is_at (nat_cmp number)) new ≡ cond (tx.dot.number == number) (Some (length notes)) (lookup (is_at (nat_cmp number)) old)
  place_at number = placed number ∙ ap (λ b. cond b (Some (length notes)) (lookup (is_at (nat_cmp number)) old)) (same_test tx.dot.number number)

  -- no commit ask of the number is among the notes
  none_at : (number : ℕ) → tx.dot.number == number ≡ true → commit_sent number notes ≡ None
  none_at number is = ap (λ n. commit_sent n notes) (sym (eqb-true tx.dot.number number is)) ∙ none

  -- the place behind the notes leads to none
  pub lead_ahead : LeadToFirsts new notes
  lead_ahead number = at (cases_Bool (tx.dot.number == number))
    where
      at : (tx.dot.number == number ≡ true) ⊎ (tx.dot.number == number ≡ false) → commit_at number notes (lookup (is_at (nat_cmp number)) new) ≡ commit_sent number notes
      at (inl is) = ap (commit_at number notes) (place_at number ∙ ap (λ b. cond b (Some (length notes)) (lookup (is_at (nat_cmp number)) old)) is) ∙ at_end number notes ∙ sym (none_at number is)
      at (inr not) = ap (commit_at number notes) (place_at number ∙ ap (λ b. cond b (Some (length notes)) (lookup (is_at (nat_cmp number)) old)) not) ∙ lead number

  -- and then to the first commit ask of the number
  pub lead_first : (deed : Deed) → commit_of deed ≡ Some tx → (section step : ℕ) → LeadToFirsts new (notes ++ marked section step deed ∷ [])
  lead_first deed commit section step number = at (cases_Bool (tx.dot.number == number))
    where
      note : Note
      note = marked section step deed

      at : (tx.dot.number == number ≡ true) ⊎ (tx.dot.number == number ≡ false) → commit_at number (notes ++ note ∷ []) (lookup (is_at (nat_cmp number)) new) ≡ commit_sent number (notes ++ note ∷ [])
      at (inl is) =
          ap (commit_at number (notes ++ note ∷ [])) (place_at number ∙ ap (λ b. cond b (Some (length notes)) (lookup (is_at (nat_cmp number)) old)) is)
          ∙ at_seam number notes note ∙ sym (sent_last number notes note ∙ ap (λ o. option_or o (commit_asked number deed)) (none_at number is))
      at (inr not) =
          let unasked : commit_asked number deed ≡ None = asked_where number deed (Some tx) commit ∙ ap (λ b. when b tx) not in
          let same = λ (o : Option Tx). ap (option_or o) unasked ∙ or_none o in
          let place = lookup (is_at (nat_cmp number)) old in
          ap (commit_at number (notes ++ note ∷ [])) (place_at number ∙ ap (λ b. cond b (Some (length notes)) place) not)
          ∙ at_last number notes note place (same (commit_at number notes place)) ∙ lead number ∙ sym (sent_last number notes note ∙ same (commit_sent number notes))
