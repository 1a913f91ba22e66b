-- What is live among the live cells is live in what both parts say.
use Rattle.std.proofs.Common.{◌≡◌, ℕ, Bool, true, false, cond, not, List, [], ◌∷◌, ◌++◌, Option, Some, None, is_some, refl, sym, ap, ◌∙◌}
use Rattle.std.specs.Prelude.{filter, map, option_map}
use Rattle.std.specs.List.{cons_option, dedup}
use Rattle.std.specs.Ordering.{eq_by_cmp}
use Rattle.std.specs.FinMap.{entries, get-entries, same_map}
use Rattle.std.specs.FinMap as map_of
use Rattle.std.specs.Map.{keys_of, lookup}
use Rattle.std.specs.BTreeMap.{is_at}
use Rattle.std.specs.List.Sorted.{IsStrictlySortedBy}
use Rattle.std.proofs.lemmas.Bool.{and_parts, not-true}
use Rattle.tally_core.specs.declared.place.Place.{Place}
use Rattle.tally_core.specs.declared.place.Cell.{Cell}
use Rattle.tally_core.specs.Places.{place_cmp, same_name}
use Rattle.tally_core.specs.Sparse.{from_sparse}
use Rattle.tally_core.specs.Cells.{Tallied, nothing, is_nothing, seen}
use Rattle.tally_core.specs.Changes.{or_else}
use Rattle.tally_core.specs.Live.{is_live, under, live_in, live_ids, kept_in, kept_at, names_after, live_names}
use Rattle.tally_core.specs.Parted.{is_owed, is_apart, AreApart}
use Rattle.tally_core.proofs.Listed.{all_names}
use Rattle.tally_core.proofs.Places.{place_cmp_total, place_cmp_same}
use Rattle.tally_core.proofs.Sparse.{shown, get-sparse, entries-sparse, sorted_keys}
use Rattle.tally_core.proofs.Kept.{nothing_is, find}
use Rattle.tally_core.proofs.Parts.{find_both}

-- a test that is turned twice
not_not : (b : Bool) → not (not b) ≡ b
not_not true = refl
not_not false = refl

-- two tests leave the same, in either order
tests_swap : {A : Type 0} (f g : A → Bool) (xs : List A) → filter f (filter g xs) ≡ filter g (filter f xs)
tests_swap f g [] = refl
tests_swap {A} f g (x ∷ xs) = at (f x) refl (g x) refl (tests_swap f g xs)
  where
    at : (a : Bool) → f x ≡ a → (b : Bool) → g x ≡ b → filter f (filter g xs) ≡ filter g (filter f xs) → filter f (cond b (x ∷ filter g xs) (filter g xs)) ≡ filter g (cond a (x ∷ filter f xs) (filter f xs))
    at true e true h ih = rw (e, h) (ap (λ l. x ∷ l) ih)
    at true e false h ih = rw h ih
    at false e true h ih = rw e ih
    at false e false h ih = ih

module _ {P : Type 0} where
  -- both searches among entries find the same
  find_looks : (q : Place) (es : List (Place × Cell P)) → map_of.find place_cmp q es ≡ lookup (is_at (place_cmp q)) es
  find_looks q [] = refl
  find_looks q (e ∷ es) = ap (cond (eq_by_cmp place_cmp q e.0) (Some e.1)) (find_looks q es)

  -- A test of cells that nothing does not pass, and no owed cell.
  module _ (t : Cell P → Bool) (none : t nothing ≡ false) (dead : (c : Cell P) → is_owed c ≡ true → t c ≡ false) where
    -- the entries whose cells pass
    abbrev passing : List (Place × Cell P) → List (Place × Cell P)
    passing es = filter (λ e. t e.1) es

    -- the cell does not pass
    abbrev fails : Cell P → Bool
    fails c = not (t c)

    -- a map of those that pass has the entries that do
    entries_passing : (es : List (Place × Cell P)) → IsStrictlySortedBy place_cmp (keys_of es) → entries (from_sparse {R = place_cmp} nothing fails es) ≡ passing es
    entries_passing es h = entries-sparse nothing fails place_cmp_total place_cmp_same es h ∙ (λ i. filter (λ e. not_not (t e.1) i) es)

    -- of two cells at a place, the live one alone passes
    pass_alike : (x y : Option (Cell P)) → is_apart x y ≡ true → shown fails (shown is_nothing (or_else x y)) ≡ shown fails x
    pass_alike (Some c) y apart = at (is_nothing c) refl
      where
        at : (b : Bool) → is_nothing c ≡ b → shown fails (cond b None (Some c)) ≡ cond (fails c) None (Some c)
        at true e = sym (ap (λ b. cond (not b) None (Some c)) (ap t (nothing_is c e) ∙ none))
        at false e = refl
    pass_alike None None apart = refl
    pass_alike None (Some d) apart = at (is_nothing d)
      where
        at : (b : Bool) → shown fails (cond b None (Some d)) ≡ None
        at true = refl
        at false = ap (λ b. cond (not b) None (Some d)) (dead d apart)

    -- so what passes of what both parts say is what passes of the live cells
    passing_seen : (L O : List (Place × Cell P)) → IsStrictlySortedBy place_cmp (keys_of L) → AreApart L O → passing (entries (seen (L ++ O))) ≡ passing L
    passing_seen L O sorted apart = sym (entries_passing (entries m) (sorted_keys place_cmp m)) ∙ (ap entries alike ∙ entries_passing L sorted)
      where
        m : Tallied P
        m = seen (L ++ O)

        alike : from_sparse {R = place_cmp} nothing fails (entries m) ≡ from_sparse {R = place_cmp} nothing fails L
        alike = same_map place_cmp_total place_cmp_same _ _ (λ q.
            get-sparse nothing fails place_cmp_total place_cmp_same (entries m) q
            ∙ (ap (shown fails) (sym (find_looks q (entries m)) ∙ (sym (get-entries m q) ∙ (get-sparse nothing is_nothing place_cmp_total place_cmp_same (L ++ O) q ∙ ap (shown is_nothing) (find_both L O q))))
            ∙ (pass_alike (find L q) (find O q) (apart q) ∙ sym (get-sparse nothing fails place_cmp_total place_cmp_same L q))))

    -- and so it is under a name
    pub passing_under : (name : List ℕ) (L O : List (Place × Cell P)) → IsStrictlySortedBy place_cmp (keys_of L) → AreApart L O → passing (under name L) ≡ passing (under name (entries (seen (L ++ O))))
    passing_under name L O sorted apart =
        let n : (Place × Cell P) → Bool = λ e. same_name e.0.name name in
        tests_swap (λ e. t e.1) n L ∙ (ap (filter n) (sym (passing_seen L O sorted apart)) ∙ sym (tests_swap (λ e. t e.1) n (entries (seen (L ++ O)))))

  -- an owed cell is no live one
  owed_dead : (c : Cell P) → is_owed c ≡ true → is_live c ≡ false
  owed_dead c h = not-true (is_live c) (and_parts (not (is_live c)) _ h).0

  -- the cell keeps something
  abbrev keeps : Cell P → Bool
  keeps c = is_some c.kept

  -- an owed cell keeps nothing
  owed_keeps : (c : Cell P) → is_owed c ≡ true → keeps c ≡ false
  owed_keeps c h = not-true (is_some c.kept) (and_parts (not (is_live c)) _ h).1

  -- what is kept is kept by cells that keep something
  kept_passing : (es : List (Place × Cell P)) → kept_in (filter (λ e. keeps e.1) es) ≡ kept_in es
  kept_passing [] = refl
  kept_passing (e ∷ es) = at e.1.kept refl (kept_passing es)
    where
      at : (o : Option P) → e.1.kept ≡ o → kept_in (filter (λ e. keeps e.1) es) ≡ kept_in es → kept_in (cond (is_some o) (e ∷ filter (λ e. keeps e.1) es) (filter (λ e. keeps e.1) es)) ≡ cons_option (option_map (λ p. (e.0.id, p)) o) (kept_in es)
      at None is ih = ih
      at (Some p) is ih = rw is (ap (λ l. (e.0.id, p) ∷ l) ih)

  -- the live identifiers of a name are those of the live cells
  pub live_seen : (name : List ℕ) (L O : List (Place × Cell P)) → IsStrictlySortedBy place_cmp (keys_of L) → AreApart L O → live_in (under name L) ≡ live_ids (seen (L ++ O)) name
  live_seen name L O sorted apart = ap (map (λ e. e.0.id)) (passing_under is_live refl owed_dead name L O sorted apart)

  -- what is kept under a name is what the live cells keep
  pub kept_seen : (name : List ℕ) (L O : List (Place × Cell P)) → IsStrictlySortedBy place_cmp (keys_of L) → AreApart L O → kept_in (under name L) ≡ kept_at (seen (L ++ O)) name
  kept_seen name L O sorted apart = sym (kept_passing (under name L)) ∙ (ap kept_in (passing_under keeps refl owed_keeps name L O sorted apart) ∙ kept_passing (under name (entries (seen (L ++ O)))))

  -- the live names are those of the live cells
  pub names_seen : (L O : List (Place × Cell P)) → IsStrictlySortedBy place_cmp (keys_of L) → AreApart L O → names_after None L ≡ live_names (seen (L ++ O))
  names_seen L O sorted apart = all_names L ∙ ap (λ es. dedup same_name (map (λ e. e.0.name) es)) (sym (passing_seen is_live refl owed_dead L O sorted apart))
