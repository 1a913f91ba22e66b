-- The clients of a bundle are all those of the records.
use Rattle.std.proofs.Common.{◌≡◌, ◌<◌, ◌≤◌, ℕ, Bool, true, false, cond, inl, inr, Option, Some, None, List, [], ◌∷◌, map, refl, sym, ap, ◌∙◌, subst, arith, eq-eqb, ne_eqb}
use Rattle.std.specs.Prelude.{◌==◌, unwrap_or}
use Rattle.std.specs.List.{AllByRecursion}
use Rattle.std.specs.List.Sorted.{IsStrictlySortedBy}
use Rattle.std.specs.Option.{option_map}
use Rattle.std.specs.Ordering.{nat_cmp}
use Rattle.std.specs.declared.cmp.Ordering.TheVariants.{Less, Equal, Greater}
use Rattle.std.proofs.lemmas.Bool.{lt-ltb}
use Rattle.std.proofs.lemmas.Option.{none-some, same_Some}
use Rattle.std.proofs.lemmas.Simd.{map-map}
use Rattle.list_core.specs.Members.{In}
use Rattle.list_core.proofs.Members.{All-In, In_map, In_from_map}
use Rattle.vv_core.specs.declared.stamp.Stamp.{Stamp}
use Rattle.dup_guard.specs.declared.guard.Last.{Last}
use Rattle.dup_guard.specs.declared.noted.Noted.{Noted}
use Rattle.dup_guard.specs.Notes.{number_of, stamp_of}
use Rattle.dup_guard.specs.Parts.{part_of, Ascends, AreParts, ArePartsOf}
use Rattle.tx_core.specs.declared.tx.Record.{Record}
use Rattle.dc_talk.specs.Records.{guard, first_stamp, inside, mine}
use Rattle.dc_talk.proofs.Firsts.{first_there}
use Rattle.check_point.specs.declared.part.Folded.{Folded}
use Rattle.check_point.specs.Points.{PointView, number_of as folded_number}
use Rattle.check_point.specs.PointParts.{HasNumbers}
use Rattle.join_bundle.specs.declared.part.ClientPart.{ClientPart}
use Rattle.cut_law.specs.Cuts.{IsClientOf, AreClientsOf}
use Rattle.dc_centre.specs.Applied.{IsGuard}
use Rattle.centre_gives.specs.Parts.{folded_in, client_part, client_parts}

-- ---- notes

-- a note of a client
abbrev noted_as : ℕ → ℕ → Stamp → Noted
noted_as client number stamp = record { client = client; number = number; stamp = stamp }

-- what a note tells
note_tells : (client number : ℕ) (stamp : Option Stamp) (n : Noted) → option_map (noted_as client number) stamp ≡ Some n → (number ≡ n.number) × (stamp ≡ Some n.stamp)
note_tells client number None n is = absurd (none-some n is)
note_tells client number (Some stamp) n is = let same = same_Some (noted_as client number stamp) n is in (ap (λ (n : Noted). n.number) same, ap (λ (n : Noted). Some n.stamp) same)

-- each note is found by its client
note_found : (notes : List Noted) (n : Noted) → Ascends notes → In n notes → part_of notes n.client ≡ Some n
note_found [] n up i = absurd i
note_found (m ∷ notes) n up (inl same) = ap (λ b. cond b (Some m) (part_of notes n.client)) (eq-eqb m.client n.client (ap (λ (n : Noted). n.client) (sym same))) ∙ ap Some (sym same)
note_found (m ∷ notes) n up (inr i) =
    let below = up.0 n i in
    ap (λ b. cond b (Some m) (part_of notes n.client)) (ne_eqb m.client n.client (λ same. absurd (omega (arith, below, same)))) ∙ note_found notes n up.1 i

-- what is found is a note
found_note : (notes : List Noted) (client : ℕ) (n : Noted) → part_of notes client ≡ Some n → In n notes
found_note [] client n is = absurd (none-some n is)
found_note (m ∷ notes) client n is = go (m.client == client) is (found_note notes client n)
  where
    go : (b : Bool) → cond b (Some m) (part_of notes client) ≡ Some n → (part_of notes client ≡ Some n → In n notes) → In n (m ∷ notes)
    go true here rest = inl (sym (same_Some m n here))
    go false there rest = inr (rest there)

-- ---- their order

-- a lesser number
less : (x y : ℕ) → x < y → nat_cmp x y ≡ Less
less x y lt = ap (λ b. cond b Less (cond (x == y) Equal Greater)) (lt-ltb x y lt)

-- those above a number
all_above : (low : ℕ) (notes : List Noted) → ((n : Noted) → In n notes → low < n.client) → AllByRecursion (λ k. nat_cmp low k ≡ Less) (map (λ (n : Noted). n.client) notes)
all_above low [] above = tt
all_above low (n ∷ notes) above = (less low n.client (above n (inl refl)), all_above low notes (λ m i. above m (inr i)))

-- clients that ascend are sorted
sorted : (notes : List Noted) → Ascends notes → IsStrictlySortedBy nat_cmp (map (λ (n : Noted). n.client) notes)
unfolding IsStrictlySortedBy
sorted [] up = tt
sorted (n ∷ notes) up = (all_above n.client notes up.0, sorted notes up.1)

-- ---- the parts

module _ (A : List Record) (point : PointView) (lasts : List Last) (notes : List Noted) (numbers : List Folded) (guarded : IsGuard A lasts) (mines : (client : ℕ) → folded_number point client ≡ mine client (inside A point.vector)) (parts : AreParts notes) (noted : ArePartsOf lasts notes) (told : HasNumbers point.numbers numbers) where
  -- the part of a note is that of its client
  client_is : (n : Noted) → In n notes → IsClientOf A point.vector (client_part numbers n)
  client_is n i = record { number = number; some = some; stamp = stamp; folded = folded }
    where
      tells : (number_of lasts n.client ≡ n.number) × (stamp_of lasts n.client ≡ Some n.stamp)
      tells = note_tells n.client (number_of lasts n.client) (stamp_of lasts n.client) n (sym (noted n.client) ∙ note_found notes n parts.ascends i)

      number : n.number ≡ guard n.client A
      number = sym tells.0 ∙ guarded.numbers n.client

      some : 1 ≤ n.number
      some = All-In (λ (n : Noted). 1 ≤ n.number) notes n parts.numbers i

      stamp : first_stamp (record { client = n.client; number = n.number }) A ≡ Some n.stamp
      stamp = ap (λ (k : ℕ). first_stamp (record { client = n.client; number = k }) A) number ∙ (sym (guarded.stamps n.client (omega (arith, some, number))) ∙ tells.1)

      folded : folded_in numbers n.client ≡ mine n.client (inside A point.vector)
      folded = ap (λ (f : Option ℕ). unwrap_or f 0) (told n.client) ∙ mines n.client

  -- each client has a part
  client_there : (client : ℕ) → 1 ≤ guard client A → (p : ClientPart) × In p (client_parts notes numbers) × (p.client ≡ client)
  client_there client some =
      let first = first_there client (guard client A) A some refl in
      let n : Noted = noted_as client (number_of lasts client) first.0 in
      let is : part_of notes client ≡ Some n = noted client ∙ ap (option_map (noted_as client (number_of lasts client))) (guarded.stamps client some ∙ first.1) in
      (client_part numbers n, In_map (client_part numbers) notes n (found_note notes client n is), refl)

  pub clients_given : AreClientsOf A point.vector (client_parts notes numbers)
  clients_given = record {
    order = subst (IsStrictlySortedBy nat_cmp) (sym (map-map (λ (c : ClientPart). c.client) (client_part numbers) notes)) (sorted notes parts.ascends);
    each = λ p i. let m = In_from_map (client_part numbers) notes p i in subst (IsClientOf A point.vector) (sym m.2) (client_is m.0 m.1);
    all = client_there;
  }
