-- Which identifiers and names the lists of live ones have, and in which order.
use Rattle.std.proofs.Common.{◌≡◌, ℕ, ◌⊎◌, inl, inr, ⊎_elim, Bool, true, false, cond, ◌&&◌, not, ◌↔◌, List, [], ◌∷◌, Option, Some, None, refl, sym, ap, ◌∙◌, subst}
use Rattle.std.specs.Prelude.{filter, map, option_map}
use Rattle.std.specs.Option.{unwrap_or}
use Rattle.std.specs.List.{AllByRecursion, cons_option, dedup, dedup_from}
use Rattle.std.specs.List.Sorted.{IsStrictlySortedBy}
use Rattle.std.specs.Map.{keys_of}
use Rattle.std.specs.Ordering.{is_lt, is_eq, is_le, ordering_then}
use Rattle.std.specs.declared.cmp.Ordering.{Ordering}
use Rattle.std.specs.declared.cmp.Ordering.TheVariants.{Less, Equal, Greater}
use Rattle.std.specs.Cmp.{tied_itself}
use Rattle.std.specs.FinMap.{entries, get}
use Rattle.std.proofs.lemmas.Cmp.{eq_by_cmp_equiv}
use Rattle.std.proofs.lemmas.Bool.{cases_Bool, and_parts, and_from, false≢true}
use Rattle.std.proofs.lemmas.Option.{none-some, same_Some}
use Rattle.list_core.specs.Members.{In}
use Rattle.list_core.proofs.Members.{In_map, In_from_map, In_filter, In_from_filter}
use Rattle.ids_core.specs.declared.ids.OpId.{OpId}
use Rattle.ids_core.specs.Ascending.{ascends, ascends_from}
use Rattle.ids_core.specs.Orders.{name_cmp, name_cmp_total, name_cmp_same, id_cmp}
use Rattle.tally_core.specs.declared.place.Place.{Place}
use Rattle.tally_core.specs.declared.place.Cell.{Cell}
use Rattle.tally_core.specs.Places.{place, place_cmp, same_name}
use Rattle.tally_core.specs.Cells.{Tallied, cell_at, nothing}
use Rattle.tally_core.specs.Live.{is_live, under, live_in, live_ids, kept_in, kept_at, is_name, names_after, live_names, IsLiveName}
use Rattle.tally_core.proofs.Places.{place_cmp_total, place_cmp_same}
use Rattle.tally_core.proofs.Sparse.{is_same, all_kept, sorted_kept, sorted_keys}
use Rattle.tally_core.proofs.Entries.{get_in, in_get}

-- a name is the same as itself
same_itself : (name : List ℕ) → same_name name name ≡ true
same_itself name = ap is_eq (tied_itself name_cmp_total name)

-- of two places of one name, the one with the lesser identifier is less
second_less : (p q : Place) → p.name ≡ q.name → place_cmp p q ≡ Less → is_lt (id_cmp p.id q.id) ≡ true
second_less p q same h = ap is_lt (sym (ap (λ r. ordering_then r (id_cmp p.id q.id)) (ap (λ n. name_cmp p.name n) (sym same) ∙ tied_itself name_cmp_total p.name)) ∙ h)

-- a place with that name and identifier is theirs
place_is : (p : Place) (name : List ℕ) (id : OpId) → p.name ≡ name → id ≡ p.id → p ≡ place name id
place_is p name id n i = λ j. record { name = n j; id = sym i j }

-- of two places the lesser has no greater name
not_greater : (p q : Place) → place_cmp p q ≡ Less → is_le (name_cmp p.name q.name) ≡ true
not_greater p q h = first (name_cmp p.name q.name) h
  where
    first : (r : Ordering) → ordering_then r (id_cmp p.id q.id) ≡ Less → is_le r ≡ true
    first Less h = refl
    first Equal h = refl
    first Greater h = cc

-- a name that is not greater, and another one, is less
strictly : (low name : List ℕ) → is_le (name_cmp low name) ≡ true → same_name low name ≡ false → name_cmp low name ≡ Less
strictly low name le other = at (name_cmp low name) le other
  where
    at : (r : Ordering) → is_le r ≡ true → is_eq r ≡ false → r ≡ Less
    at Less le other = refl
    at Equal le other = cc
    at Greater le other = cc

-- what is above a greater name is above a lesser one
raise : (low high : List ℕ) → name_cmp low high ≡ Less → (names : List (List ℕ)) → AllByRecursion (λ n. name_cmp high n ≡ Less) names → AllByRecursion (λ n. name_cmp low n ≡ Less) names
raise low high less [] h = tt
raise low high less (n ∷ names) h = (name_cmp_total.trans low high n less h.0, raise low high less names h.1)

module _ {P : Type 0} where
  -- an entry of the name
  Named : List ℕ → (Place × Cell P) → Type 0
  Named name e = e.0.name ≡ name

  -- the identifiers of sorted entries of one name ascend, above that of a place below them
  ids_from : (name : List ℕ) (p : Place) (es : List (Place × Cell P)) → p.name ≡ name → AllByRecursion (λ q. place_cmp p q ≡ Less) (keys_of es) → IsStrictlySortedBy place_cmp (keys_of es) → AllByRecursion (λ q. q.name ≡ name) (keys_of es) → ascends_from p.id (map (λ e. e.0.id) es) ≡ true
  unfolding IsStrictlySortedBy
  ids_from name p [] is above sorted named = refl
  ids_from name p (e ∷ es) is above sorted named = and_from (is_lt (id_cmp p.id e.0.id)) _ (second_less p e.0 (is ∙ sym named.0) above.0) (ids_from name e.0 es named.0 sorted.0 sorted.1 named.1)

  -- the identifiers of sorted entries of one name ascend
  ids_ascend : (name : List ℕ) (es : List (Place × Cell P)) → IsStrictlySortedBy place_cmp (keys_of es) → AllByRecursion (λ q. q.name ≡ name) (keys_of es) → ascends (map (λ e. e.0.id) es) ≡ true
  unfolding IsStrictlySortedBy
  ids_ascend name [] sorted named = refl
  ids_ascend name (e ∷ es) sorted named = ids_from name e.0 es named.0 sorted.0 sorted.1 named.1

  -- the entries under a name have it
  all_named : (name : List ℕ) (es : List (Place × Cell P)) → AllByRecursion (λ q. q.name ≡ name) (keys_of (under name es))
  all_named name [] = tt
  all_named name (e ∷ es) = at (same_name e.0.name name) refl (all_named name es)
    where
      at : (b : Bool) → same_name e.0.name name ≡ b → AllByRecursion (λ q. q.name ≡ name) (keys_of (under name es)) → AllByRecursion (λ q. q.name ≡ name) (keys_of (cond b (e ∷ under name es) (under name es)))
      at true t ih = (is_same name_cmp_same e.0.name name t, ih)
      at false f ih = ih

  -- so the live identifiers of a name ascend
  pub live_ascends : (name : List ℕ) (es : List (Place × Cell P)) → IsStrictlySortedBy place_cmp (keys_of es) → ascends (live_in (under name es)) ≡ true
  live_ascends name es sorted = ids_ascend name _ (sorted_kept place_cmp (λ e. is_live e.1) (under name es) (sorted_kept place_cmp (λ e. same_name e.0.name name) es sorted)) (all_kept place_cmp (λ q. q.name ≡ name) (λ e. is_live e.1) (under name es) (all_named name es))

  -- what a map has at a place, by its entries
  at_entry : (m : Tallied P) (e : Place × Cell P) → In e (entries m) → cell_at m e.0 ≡ e.1
  at_entry m e i = ap (λ o. unwrap_or o nothing) (in_get place_cmp place_cmp_total place_cmp_same m e i)

  -- a place is that of an entry, or nothing stands there
  entry_at : (m : Tallied P) (p : Place) → (cell_at m p ≡ nothing) ⊎ In (p, cell_at m p) (entries m)
  entry_at m p = at (get m p) refl
    where
      at : (o : Option (Cell P)) → get m p ≡ o → (unwrap_or (get m p) nothing ≡ nothing) ⊎ In (p, unwrap_or (get m p) nothing) (entries m)
      at None e = inl (ap (λ o. unwrap_or o nothing) e)
      at (Some c) e = inr (rw e (get_in place_cmp place_cmp_total place_cmp_same m p c e))

  -- the live identifiers of a name are those with a live cell
  pub live_exact : (m : Tallied P) (name : List ℕ) (id : OpId) → In id (live_ids m name) ↔ (is_live (cell_at m (place name id)) ≡ true)
  live_exact m name id = (to, from)
    where
      to : In id (live_ids m name) → is_live (cell_at m (place name id)) ≡ true
      to i =
          let r = In_from_map (λ e. e.0.id) (filter (λ e. is_live e.1) (under name (entries m))) id i in
          let live = In_from_filter (λ e. is_live e.1) (under name (entries m)) r.0 r.1 in
          let named = In_from_filter (λ e. same_name e.0.name name) (entries m) r.0 live.0 in
          let same = place_is r.0.0 name id (is_same name_cmp_same r.0.0.name name named.1) r.2 in
          ap (λ p. is_live (cell_at m p)) (sym same) ∙ (ap is_live (at_entry m r.0 named.0) ∙ live.1)

      from : is_live (cell_at m (place name id)) ≡ true → In id (live_ids m name)
      from h = ⊎_elim (λ n. absurd (false≢true (ap is_live (sym n) ∙ h))) (λ i.
          let e : Place × Cell P = (place name id, cell_at m (place name id)) in
          In_map (λ e. e.0.id) _ e (In_filter (λ e. is_live e.1) (under name (entries m)) e (In_filter (λ e. same_name e.0.name name) (entries m) e i (same_itself name)) h)) (entry_at m (place name id))

  -- what an entry keeps is among what is kept
  in_kept : (es : List (Place × Cell P)) (e : Place × Cell P) (p : P) → In e es → e.1.kept ≡ Some p → In (e.0.id, p) (kept_in es)
  in_kept [] e p i h = absurd i
  in_kept (f ∷ es) e p i h = at f.1.kept refl i (λ j. in_kept es e p j h)
    where
      at : (o : Option P) → f.1.kept ≡ o → In e (f ∷ es) → (In e es → In (e.0.id, p) (kept_in es)) → In (e.0.id, p) (cons_option (option_map (λ p. (f.0.id, p)) o) (kept_in es))
      at None n (inl s) rest = absurd (none-some p (sym n ∙ (ap (λ e. e.1.kept) (sym s) ∙ h)))
      at None n (inr j) rest = rest j
      at (Some q) n (inl s) rest =
          let value : q ≡ p = same_Some q p (sym n ∙ (ap (λ e. e.1.kept) (sym s) ∙ h)) in
          inl (λ k. (ap (λ e. e.0.id) s k, sym value k))
      at (Some q) n (inr j) rest = inr (rest j)

  -- and what is kept is kept by an entry
  from_kept : (es : List (Place × Cell P)) (id : OpId) (p : P) → In (id, p) (kept_in es) → (e : Place × Cell P) × In e es × (id ≡ e.0.id) × (e.1.kept ≡ Some p)
  from_kept [] id p i = absurd i
  from_kept (f ∷ es) id p i = at f.1.kept refl i (λ j. from_kept es id p j)
    where
      at : (o : Option P) → f.1.kept ≡ o → In (id, p) (cons_option (option_map (λ p. (f.0.id, p)) o) (kept_in es)) → (In (id, p) (kept_in es) → (e : Place × Cell P) × In e es × (id ≡ e.0.id) × (e.1.kept ≡ Some p)) → (e : Place × Cell P) × In e (f ∷ es) × (id ≡ e.0.id) × (e.1.kept ≡ Some p)
      at None n j rest = let r = rest j in (r.0, inr r.1, r.2, r.3)
      at (Some q) n (inl s) rest = (f, inl refl, ap (λ e. e.0) s, n ∙ ap (λ e. Some e.1) (sym s))
      at (Some q) n (inr j) rest = let r = rest j in (r.0, inr r.1, r.2, r.3)

  -- what is kept under a name is what its cells keep
  pub kept_exact : (m : Tallied P) (name : List ℕ) (id : OpId) (p : P) → In (id, p) (kept_at m name) ↔ ((cell_at m (place name id)).kept ≡ Some p)
  kept_exact m name id p = (to, from)
    where
      to : In (id, p) (kept_at m name) → (cell_at m (place name id)).kept ≡ Some p
      to i =
          let r = from_kept (under name (entries m)) id p i in
          let named = In_from_filter (λ e. same_name e.0.name name) (entries m) r.0 r.1 in
          let same = place_is r.0.0 name id (is_same name_cmp_same r.0.0.name name named.1) r.2 in
          ap (λ p. (cell_at m p).kept) (sym same) ∙ (ap (λ c. c.kept) (at_entry m r.0 named.0) ∙ r.3)

      from : (cell_at m (place name id)).kept ≡ Some p → In (id, p) (kept_at m name)
      from h = ⊎_elim (λ n. absurd (none-some p (ap (λ c. c.kept) (sym n) ∙ h))) (λ i.
          let e : Place × Cell P = (place name id, cell_at m (place name id)) in
          in_kept (under name (entries m)) e p (In_filter (λ e. same_name e.0.name name) (entries m) e i (same_itself name)) h) (entry_at m (place name id))

  -- the names that are given out after one are what is left of it and the live names behind it, each once
  after_one : (last : List ℕ) (es : List (Place × Cell P)) → last ∷ names_after (Some last) es ≡ dedup_from same_name last (map (λ e. e.0.name) (filter (λ e. is_live e.1) es))
  after_one last [] = refl
  after_one last (e ∷ es) = at (is_live e.1) (same_name last e.0.name) refl (after_one last es) (after_one e.0.name es)
    where
      turned : (s : Bool) → same_name last e.0.name ≡ s → same_name e.0.name last ≡ s
      turned s is = (eq_by_cmp_equiv name_cmp_total).symm e.0.name last ∙ is

      at : (b s : Bool) → same_name last e.0.name ≡ s → last ∷ names_after (Some last) es ≡ dedup_from same_name last (map (λ e. e.0.name) (filter (λ e. is_live e.1) es)) → e.0.name ∷ names_after (Some e.0.name) es ≡ dedup_from same_name e.0.name (map (λ e. e.0.name) (filter (λ e. is_live e.1) es)) → last ∷ cond (b && not s) (e.0.name ∷ names_after (Some e.0.name) es) (names_after (Some last) es) ≡ dedup_from same_name last (map (λ e. e.0.name) (cond b (e ∷ filter (λ e. is_live e.1) es) (filter (λ e. is_live e.1) es)))
      at false s is ih next = ih
      at true true is ih next = ih ∙ sym (rw (turned true is) refl)
      at true false is ih next = ap (λ l. last ∷ l) next ∙ sym (rw (turned false is) refl)

  -- so the names that are given out are the live ones
  pub all_names : (es : List (Place × Cell P)) → names_after None es ≡ dedup same_name (map (λ e. e.0.name) (filter (λ e. is_live e.1) es))
  all_names [] = refl
  all_names (e ∷ es) = at (is_live e.1) (all_names es) (after_one e.0.name es)
    where
      at : (b : Bool) → names_after None es ≡ dedup same_name (map (λ e. e.0.name) (filter (λ e. is_live e.1) es)) → e.0.name ∷ names_after (Some e.0.name) es ≡ dedup_from same_name e.0.name (map (λ e. e.0.name) (filter (λ e. is_live e.1) es)) → cond (b && true) (e.0.name ∷ names_after (Some e.0.name) es) (names_after None es) ≡ dedup same_name (map (λ e. e.0.name) (cond b (e ∷ filter (λ e. is_live e.1) es) (filter (λ e. is_live e.1) es)))
      at true none next = next
      at false none next = none

  -- the live names are those that are given out
  pub names_given : (m : Tallied P) → names_after None (entries m) ≡ live_names m
  names_given m = all_names (entries m)

  -- the names that are given out are those of live entries
  from_names : (last : Option (List ℕ)) (es : List (Place × Cell P)) (name : List ℕ) → In name (names_after last es) → (e : Place × Cell P) × In e es × (e.0.name ≡ name) × (is_live e.1 ≡ true)
  from_names last [] name i = absurd i
  from_names last (e ∷ es) name i = at (cases_Bool (is_live e.1 && not (is_name last e.0.name))) (λ j. from_names last es name j) (λ j. from_names (Some e.0.name) es name j)
    where
      more : ((f : Place × Cell P) × In f es × (f.0.name ≡ name) × (is_live f.1 ≡ true)) → (f : Place × Cell P) × In f (e ∷ es) × (f.0.name ≡ name) × (is_live f.1 ≡ true)
      more r = (r.0, inr r.1, r.2, r.3)

      at : ((is_live e.1 && not (is_name last e.0.name)) ≡ true) ⊎ ((is_live e.1 && not (is_name last e.0.name)) ≡ false) → (In name (names_after last es) → (f : Place × Cell P) × In f es × (f.0.name ≡ name) × (is_live f.1 ≡ true)) → (In name (names_after (Some e.0.name) es) → (f : Place × Cell P) × In f es × (f.0.name ≡ name) × (is_live f.1 ≡ true)) → (f : Place × Cell P) × In f (e ∷ es) × (f.0.name ≡ name) × (is_live f.1 ≡ true)
      at (inl t) rest next = ⊎_elim (λ s. (e, inl refl, sym s, (and_parts (is_live e.1) _ t).0)) (λ j. more (next j)) (subst (λ b. In name (cond b (e.0.name ∷ names_after (Some e.0.name) es) (names_after last es))) t i)
      at (inr f) rest next = more (rest (subst (λ b. In name (cond b (e.0.name ∷ names_after (Some e.0.name) es) (names_after last es))) f i))

  -- and each live entry's name is given out, or was before
  in_names : (last : Option (List ℕ)) (es : List (Place × Cell P)) (e : Place × Cell P) → In e es → is_live e.1 ≡ true → In e.0.name (names_after last es) ⊎ (is_name last e.0.name ≡ true)
  in_names last [] e i h = absurd i
  in_names last (f ∷ es) e i h = at (cases_Bool (is_name last f.0.name)) i (λ j. in_names (Some f.0.name) es e j h) (λ j. in_names last es e j h)
    where
      out : Type 0
      out = In e.0.name (names_after last (f ∷ es)) ⊎ (is_name last e.0.name ≡ true)

      given : (is_live f.1 && not (is_name last f.0.name)) ≡ true → In e.0.name (f.0.name ∷ names_after (Some f.0.name) es) → out
      given t j = inl (subst (λ b. In e.0.name (cond b (f.0.name ∷ names_after (Some f.0.name) es) (names_after last es))) (sym t) j)

      skipped : (is_live f.1 && not (is_name last f.0.name)) ≡ false → In e.0.name (names_after last es) → out
      skipped t j = inl (subst (λ b. In e.0.name (cond b (f.0.name ∷ names_after (Some f.0.name) es) (names_after last es))) (sym t) j)

      later : In e es → (b : Bool) → (is_live f.1 && not (is_name last f.0.name)) ≡ b → (In e es → In e.0.name (names_after (Some f.0.name) es) ⊎ (same_name f.0.name e.0.name ≡ true)) → (In e es → In e.0.name (names_after last es) ⊎ (is_name last e.0.name ≡ true)) → out
      later j true t next rest = given t (⊎_elim inr (λ s. inl (sym (is_same name_cmp_same f.0.name e.0.name s))) (next j))
      later j false t next rest = ⊎_elim (skipped t) inr (rest j)

      at : (is_name last f.0.name ≡ true) ⊎ (is_name last f.0.name ≡ false) → In e (f ∷ es) → (In e es → In e.0.name (names_after (Some f.0.name) es) ⊎ (same_name f.0.name e.0.name ≡ true)) → (In e es → In e.0.name (names_after last es) ⊎ (is_name last e.0.name ≡ true)) → out
      at (inl t) (inl s) next rest = inr (ap (λ e. is_name last e.0.name) s ∙ t)
      at (inr n) (inl s) next rest = given (rw (ap (λ e. is_live e.1) (sym s) ∙ h, n) refl) (inl (ap (λ e. e.0.name) s))
      at (inl t) (inr j) next rest = later j (is_live f.1 && not (is_name last f.0.name)) refl next rest
      at (inr n) (inr j) next rest = later j (is_live f.1 && not (is_name last f.0.name)) refl next rest

  -- the live names are those with a live identifier
  pub names_exact : (m : Tallied P) (name : List ℕ) → In name (live_names m) ↔ IsLiveName m name
  names_exact m name = (to, from)
    where
      to : In name (live_names m) → IsLiveName m name
      to i =
          let r = from_names None (entries m) name (subst (In name) (sym (names_given m)) i) in
          let same : r.0.0 ≡ place name r.0.0.id = place_is r.0.0 name r.0.0.id r.2 refl in
          (r.0.0.id, ap (λ p. is_live (cell_at m p)) (sym same) ∙ (ap is_live (at_entry m r.0 r.1) ∙ r.3))

      from : IsLiveName m name → In name (live_names m)
      from h = ⊎_elim (λ n. absurd (false≢true (ap is_live (sym n) ∙ h.1))) (λ i. ⊎_elim (λ j. subst (In name) (names_given m) j) (λ f. absurd (false≢true f)) (in_names None (entries m) (place name h.0, cell_at m (place name h.0)) i h.1)) (entry_at m (place name h.0))

  -- the names behind a place are not less than its own
  names_mapped : (low : List ℕ) (p : Place) (es : List (Place × Cell P)) → low ≡ p.name → AllByRecursion (λ q. place_cmp p q ≡ Less) (keys_of es) → AllByRecursion (λ q. is_le (name_cmp low q.name) ≡ true) (keys_of es)
  names_mapped low p [] is h = tt
  names_mapped low p (e ∷ es) is h = (ap (λ n. is_le (name_cmp n e.0.name)) is ∙ not_greater p e.0 h.0, names_mapped low p es is h.1)

  -- the names that are given out after one are above it
  names_above : (low : List ℕ) (es : List (Place × Cell P)) → AllByRecursion (λ q. is_le (name_cmp low q.name) ≡ true) (keys_of es) → IsStrictlySortedBy place_cmp (keys_of es) → AllByRecursion (λ n. name_cmp low n ≡ Less) (names_after (Some low) es)
  unfolding IsStrictlySortedBy
  names_above low [] le sorted = tt
  names_above low (e ∷ es) le sorted = at (is_live e.1) (same_name low e.0.name) refl (names_above low es le.1 sorted.1) (names_above e.0.name es (names_mapped e.0.name e.0 es refl sorted.0) sorted.1)
    where
      at : (b s : Bool) → same_name low e.0.name ≡ s → AllByRecursion (λ n. name_cmp low n ≡ Less) (names_after (Some low) es) → AllByRecursion (λ n. name_cmp e.0.name n ≡ Less) (names_after (Some e.0.name) es) → AllByRecursion (λ n. name_cmp low n ≡ Less) (cond (b && not s) (e.0.name ∷ names_after (Some e.0.name) es) (names_after (Some low) es))
      at false s is ih next = ih
      at true true is ih next = ih
      at true false is ih next = let less = strictly low e.0.name le.0 is in (less, raise low e.0.name less _ next)

  -- the names that are given out ascend
  names_sorted : (last : Option (List ℕ)) (es : List (Place × Cell P)) → IsStrictlySortedBy place_cmp (keys_of es) → IsStrictlySortedBy name_cmp (names_after last es)
  unfolding IsStrictlySortedBy
  names_sorted last [] sorted = tt
  names_sorted last (e ∷ es) sorted = at (is_live e.1 && not (is_name last e.0.name)) (names_sorted last es sorted.1) (names_sorted (Some e.0.name) es sorted.1)
    where
      at : (b : Bool) → IsStrictlySortedBy name_cmp (names_after last es) → IsStrictlySortedBy name_cmp (names_after (Some e.0.name) es) → IsStrictlySortedBy name_cmp (cond b (e.0.name ∷ names_after (Some e.0.name) es) (names_after last es))
      at true ih next = (names_above e.0.name es (names_mapped e.0.name e.0 es refl sorted.0) sorted.1, next)
      at false ih next = ih

  -- so the live names ascend
  pub names_ascend : (m : Tallied P) → IsStrictlySortedBy name_cmp (live_names m)
  names_ascend m = subst (IsStrictlySortedBy name_cmp) (names_given m) (names_sorted None (entries m) (sorted_keys place_cmp m))
