-- The guard of the notes.
use Rattle.std.proofs.Common.{◌≡◌, ℕ, Bool, true, false, cond, ◌&&◌, nat_le, ◌==◌, Option, Some, None, List, [], ◌∷◌, refl, sym, ap, ◌∙◌}
use Rattle.std.proofs.lemmas.Bool.{eqb-true}
use Rattle.std.specs.List.{list_all}
use Rattle.std.specs.Option.{option_map}
use Rattle.vv_core.specs.declared.stamp.Stamp.{Stamp}
use Rattle.tx_core.specs.declared.part.RestPart.{RestPart}
use Rattle.dup_guard.specs.declared.guard.Last.{Last}
use Rattle.dup_guard.specs.declared.noted.Noted.{Noted}
use Rattle.dup_guard.specs.Notes.{last_at, number_in, stamp_in, number_of}
use Rattle.dup_guard.specs.Parts.{note_of, part_of, AreParts, ArePartsOf}
use Rattle.centre_parts.specs.Conditions.{noted}
use Rattle.centre_parts.specs.Tests.{are_notes}
use Rattle.centre_parts.proofs.Deciding.{notes}

-- parts of which a guard is made
pub guard_parts : (ns : List Noted) → are_notes ns ≡ true → AreParts ns
guard_parts ns h = (notes ns).0 h

-- the number of a part, 0 for none
abbrev pub number_at : Option Noted → ℕ
number_at None = 0
number_at (Some n) = n.number

-- what the parts note
noted_is : (ns : List Noted) (client : ℕ) → noted ns client ≡ number_at (part_of ns client)
noted_is [] client = refl
noted_is (n ∷ ns) client = by (n.client == client) (noted_is ns client)
  where
    by : (t : Bool) → noted ns client ≡ number_at (part_of ns client) → cond t n.number (noted ns client) ≡ number_at (cond t (Some n) (part_of ns client))
    by true rest = refl
    by false rest = rest

-- what a guard notes
pub number_is : (lasts : List Last) (client : ℕ) → number_of lasts client ≡ number_at (note_of lasts client)
number_is lasts client = by (last_at lasts client)
  where
    noted_as : ℕ → Stamp → Noted
    noted_as number stamp = record { client = client; number = number; stamp = stamp }

    tested : (last : Last) (t : Bool) → (last.number == 0) ≡ t → last.number ≡ number_at (option_map (noted_as last.number) (cond t None (Some last.stamp)))
    tested last true is = eqb-true last.number 0 is
    tested last false is = refl

    by : (last : Option Last) → number_in last ≡ number_at (option_map (noted_as (number_in last)) (stamp_in last))
    by None = refl
    by (Some last) = tested last (last.number == 0) refl

-- of the parts of a guard each number is what the guard has
pub noted_of : (lasts : List Last) (ns : List Noted) → ArePartsOf lasts ns → (client : ℕ) → noted ns client ≡ number_of lasts client
noted_of lasts ns are client = noted_is ns client ∙ (ap number_at (are client) ∙ sym (number_is lasts client))

-- so the tests by both are one
pub all_noted : (lasts : List Last) (ns : List Noted) (rest : List RestPart) → ArePartsOf lasts ns → list_all (λ r. nat_le r.tx.dot.number (number_of lasts r.tx.dot.client)) rest ≡ list_all (λ r. nat_le r.tx.dot.number (noted ns r.tx.dot.client)) rest
all_noted lasts ns [] are = refl
all_noted lasts ns (r ∷ rest) are =
    ap (λ (n : ℕ). nat_le r.tx.dot.number n && list_all (λ r. nat_le r.tx.dot.number (number_of lasts r.tx.dot.client)) rest) (sym (noted_of lasts ns are r.tx.dot.client))
    ∙ ap (λ b. nat_le r.tx.dot.number (noted ns r.tx.dot.client) && b) (all_noted lasts ns rest are)
