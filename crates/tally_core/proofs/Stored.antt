-- Cells that are stored, and what lists of them say.
use Rattle.std.proofs.Common.{◌≡◌, Bool, true, false, cond, not, ◌&&◌, Option, Some, None, is_some, List, [], ◌∷◌, ◌++◌, refl, sym, ap, ◌∙◌, subst, arith}
use Rattle.std.specs.Prelude.{ℤ, pos, int_lt, All}
use Rattle.std.specs.Ordering.{int_eq}
use Rattle.std.specs.FinMap.{entries, empty, len-entries, len-empty, same_map}
use Rattle.std.specs.BTreeMap.{is_at}
use Rattle.std.specs.Map.{keys_of}
use Rattle.std.specs.List.Sorted.{IsStrictlySortedBy}
use Rattle.std.proofs.lemmas.Int.{ints}
use Rattle.std.proofs.lemmas.Bool.{and_parts, and_from, not-true, false≢true}
use Rattle.std.proofs.lemmas.Option.{none-some, same_Some}
use Rattle.std.proofs.lemmas.List.{nil_from_length}
use Rattle.std.proofs.lemmas.List.Elements.{All-nil, All-head, All-tail}
use Rattle.std.proofs.lemmas.Map.Entries.{option_filter}
use Rattle.list_core.proofs.Members.{All-In, filter_all}
use Rattle.tally_core.specs.declared.place.Place.{Place}
use Rattle.tally_core.specs.declared.place.Cell.{Cell}
use Rattle.tally_core.specs.Places.{place_cmp}
use Rattle.tally_core.specs.Cells.{nothing, is_nothing, seen}
use Rattle.tally_core.specs.Changes.{or_else}
use Rattle.tally_core.specs.Live.{is_live}
use Rattle.tally_core.specs.Parted.{is_owed, is_kept, is_apart, AreApart}
use Rattle.tally_core.specs.Listing.{is_stored, is_there, is_of, AreStored}
use Rattle.tally_core.proofs.Places.{place_cmp_total, place_cmp_same}
use Rattle.tally_core.proofs.Sparse.{get-sparse, entries-sparse}
use Rattle.tally_core.proofs.Kept.{find}
use Rattle.tally_core.proofs.Parts.{told, find_both}

-- whole numbers about 0
below : (n : ℤ) → int_lt (pos 0) n ≡ false → int_eq n (pos 0) ≡ false → int_lt n (pos 0) ≡ true
below n low some = grind (arith, ints)

some_above : (n : ℤ) → int_lt (pos 0) n ≡ true → int_eq n (pos 0) ≡ false
some_above n up = grind (arith, ints)

some_below : (n : ℤ) → int_lt n (pos 0) ≡ true → int_eq n (pos 0) ≡ false
some_below n low = grind (arith, ints)

-- of two tests that do not both hold, the first does not where the second does
first_fails : (a b : Bool) → b ≡ true → not (a && b) ≡ true → a ≡ false
first_fails false b holds h = refl
first_fails true true holds h = absurd (false≢true h)
first_fails true false holds h = absurd (false≢true holds)

module _ {P : Type 0} where
  -- a live cell that keeps something is stored
  kept_stored : (c : Cell P) → is_kept c ≡ true → is_stored c ≡ true
  kept_stored c kept = let parts = and_parts (is_live c) (is_some c.kept) kept in rw parts.0 parts.1

  -- and so is an owed one that is not of 0
  owed_stored : (c : Cell P) → is_owed c ≡ true → is_there c ≡ true → is_stored c ≡ true
  owed_stored c owed there =
      let parts = and_parts (not (is_live c)) (not (is_some c.kept)) owed in
      let low = not-true (is_live c) parts.0 in
      let some = first_fails (int_eq c.count (pos 0)) (not (is_some c.kept)) parts.1 there in
      rw low (and_from (int_lt c.count (pos 0)) _ (below c.count low some) parts.1)

  -- a stored cell by its tally
  module _ (c : Cell P) (stored : is_stored c ≡ true) where
    abbrev other : Bool
    other = int_lt c.count (pos 0) && not (is_some c.kept)

    stored_live : is_live c ≡ true → is_kept c ≡ true
    stored_live live = and_from (is_live c) _ live (sym (ap (λ b. cond b (is_some c.kept) other) live) ∙ stored)

    stored_low : is_live c ≡ false → other ≡ true
    stored_low low = sym (ap (λ b. cond b (is_some c.kept) other) low) ∙ stored

    stored_owed : is_live c ≡ false → is_owed c ≡ true
    stored_owed low = and_from (not (is_live c)) _ (ap not low) (and_parts (int_lt c.count (pos 0)) _ (stored_low low)).1

    -- it is not nothing
    stored_there : is_there c ≡ true
    stored_there = at (is_live c) refl
      where
        at : (b : Bool) → is_live c ≡ b → not (int_eq c.count (pos 0) && not (is_some c.kept)) ≡ true
        at true live = rw (some_above c.count live) refl
        at false low = rw (some_below c.count (and_parts (int_lt c.count (pos 0)) _ (stored_low low)).0) refl

    -- and it is in its part
    stored_apart : is_apart (option_filter (is_of true) (Some c)) (option_filter (is_of false) (Some c)) ≡ true
    stored_apart = at (is_live c) refl
      where
        at : (b : Bool) → is_live c ≡ b → is_apart (cond b (Some c) None) (cond (not b) (Some c) None) ≡ true
        at true live = stored_live live
        at false low = stored_owed low

  -- each cell of a list of stored ones is stored
  pub found_stored : (es : List (Place × Cell P)) → All (λ e. is_stored e.1 ≡ true) es → (q : Place) (c : Cell P) → find es q ≡ Some c → is_stored c ≡ true
  found_stored [] all q c there = absurd (none-some c there)
  found_stored (e ∷ es) all q c there = at (is_at (place_cmp q) e.0) there (λ h. found_stored es (All-tail (λ e. is_stored e.1 ≡ true) e es all) q c h)
    where
      at : (b : Bool) → cond b (Some e.1) (find es q) ≡ Some c → (find es q ≡ Some c → is_stored c ≡ true) → is_stored c ≡ true
      at true h rest = subst (λ c. is_stored c ≡ true) (same_Some e.1 c h) (All-head (λ e. is_stored e.1 ≡ true) e es all)
      at false h rest = rest h

  -- the live cells and the others are apart where all are stored
  pub parts_apart : (L O list : List (Place × Cell P)) → All (λ e. is_stored e.1 ≡ true) list → ((q : Place) → find L q ≡ option_filter (is_of true) (find list q)) → ((q : Place) → find O q ≡ option_filter (is_of false) (find list q)) → AreApart L O
  parts_apart L O list all live owed q = rw (live q, owed q) (at (find list q) (found_stored list all q))
    where
      at : (x : Option (Cell P)) → ((c : Cell P) → x ≡ Some c → is_stored c ≡ true) → is_apart (option_filter (is_of true) x) (option_filter (is_of false) x) ≡ true
      at None each = refl
      at (Some c) each = stored_apart c (each c refl)

  -- lists of which the same is told at each place say the same
  seen_alike : (es fs : List (Place × Cell P)) → ((q : Place) → told (find es q) ≡ told (find fs q)) → seen es ≡ seen fs
  seen_alike es fs is = same_map place_cmp_total place_cmp_same _ _ (λ q. get-sparse nothing is_nothing place_cmp_total place_cmp_same es q ∙ (is q ∙ sym (get-sparse nothing is_nothing place_cmp_total place_cmp_same fs q)))

  -- the entries of what stored ones say are these
  pub stored_entries : (es : List (Place × Cell P)) → AreStored es → entries (seen es) ≡ es
  stored_entries es stored = entries-sparse nothing is_nothing place_cmp_total place_cmp_same es stored.ascending ∙ filter_all (λ e. is_there e.1) es (λ e i. stored_there e.1 (All-In (λ e. is_stored e.1 ≡ true) es e stored.each i))

  -- both parts of a list say what it says
  pub parts_entries : (L O list : List (Place × Cell P)) → AreStored list → ((q : Place) → find L q ≡ option_filter (is_of true) (find list q)) → ((q : Place) → find O q ≡ option_filter (is_of false) (find list q)) → entries (seen (L ++ O)) ≡ list
  parts_entries L O list stored live owed = ap entries (seen_alike (L ++ O) list (λ q. ap told (find_both L O q ∙ both q))) ∙ stored_entries list stored
    where
      at : (x : Option (Cell P)) → or_else (option_filter (is_of true) x) (option_filter (is_of false) x) ≡ x
      at None = refl
      at (Some c) = turn (is_live c)
        where
          turn : (b : Bool) → or_else (cond b (Some c) None) (cond (not b) (Some c) None) ≡ Some c
          turn true = refl
          turn false = refl

      both : (q : Place) → or_else (find L q) (find O q) ≡ find list q
      both q = rw (live q, owed q) (at (find list q))

  -- One tree of the live cells and of the owed ones that are not of 0.
  module _ (L O all : List (Place × Cell P)) (apart : AreApart L O) (is : (q : Place) → find all q ≡ or_else (option_filter is_there (find O q)) (find L q)) where
    -- says what both say
    joined_seen : seen all ≡ seen (L ++ O)
    joined_seen = seen_alike all (L ++ O) (λ q. ap told (is q) ∙ (at (find L q) (find O q) (apart q) ∙ ap told (sym (find_both L O q))))
      where
        at : (x y : Option (Cell P)) → is_apart x y ≡ true → told (or_else (option_filter is_there y) x) ≡ told (or_else x y)
        at None None h = refl
        at (Some c) None h = refl
        at (Some c) (Some d) h = cc
        at None (Some d) h = turn (is_nothing d) refl
          where
            turn : (b : Bool) → is_nothing d ≡ b → told (or_else (cond (not b) (Some d) None) None) ≡ told (Some d)
            turn true e = rw e refl
            turn false e = refl

    -- and its cells are stored
    joined_stored : IsStrictlySortedBy place_cmp (keys_of all) → All (λ e. find all e.0 ≡ Some e.1) all → AreStored all
    joined_stored sorted found = record { ascending = sorted; each = λ k d l. let h = found k d l in stored_at _ _ h }
      where
        at : (x y : Option (Cell P)) → is_apart x y ≡ true → (c : Cell P) → or_else (option_filter is_there y) x ≡ Some c → is_stored c ≡ true
        at None None h c e = absurd (none-some c e)
        at (Some d) None h c e = subst (λ c. is_stored c ≡ true) (same_Some d c e) (kept_stored d h)
        at (Some c) (Some d) h e f = cc
        at None (Some d) h c e = turn (is_there d) refl e
          where
            turn : (b : Bool) → is_there d ≡ b → or_else (cond b (Some d) None) None ≡ Some c → is_stored c ≡ true
            turn true t e = subst (λ c. is_stored c ≡ true) (same_Some d c e) (owed_stored d h t)
            turn false t e = absurd (none-some c e)

        stored_at : (q : Place) (c : Cell P) → find all q ≡ Some c → is_stored c ≡ true
        stored_at q c h = at (find L q) (find O q) (apart q) c (sym (is q) ∙ h)

    -- so that its entries are those of both
    pub joined_entries : IsStrictlySortedBy place_cmp (keys_of all) → All (λ e. find all e.0 ≡ Some e.1) all → AreStored all × (all ≡ entries (seen (L ++ O)))
    joined_entries sorted found = let stored = joined_stored sorted found in (stored, sym (stored_entries all stored) ∙ ap entries joined_seen)

  pub none_stored : AreStored {P = P} []
  unfolding IsStrictlySortedBy
  none_stored = record { ascending = tt; each = All-nil (λ (e : Place × Cell P). is_stored e.1 ≡ true) }

  -- where there are no cells, there are no entries
  pub no_entries : entries (empty {X = Cell P} {R = place_cmp}) ≡ []
  no_entries = nil_from_length (entries (empty {X = Cell P} {R = place_cmp})) (sym (len-entries (empty {X = Cell P} {R = place_cmp})) ∙ len-empty place_cmp (Cell P))
