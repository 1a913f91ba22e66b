-- A split after one record more, and at a later base.
use Rattle.std.proofs.Common.{◌≡◌, ℕ, Bool, true, false, cond, ⊎_elim, List, [], ◌∷◌, ◌++◌, map, sym, ap, subst, ◌∙◌}
use Rattle.std.specs.Prelude.{filter, not}
use Rattle.std.proofs.lemmas.Bool.{cases_Bool, false≢true, not-true}
use Rattle.std.proofs.lemmas.List.{append_assoc, append-nil, map-append}
use Rattle.std.proofs.lemmas.List.Elements.{filter-append}
use Rattle.list_core.specs.Members.{In}
use Rattle.list_core.specs.Permutations.{Perm, Done, Then}
use Rattle.list_core.proofs.Members.{In_either, In_more, In_map, In_from_map, In_from_filter}
use Rattle.list_core.proofs.Permutations.{both_ways}
use Rattle.list_core.proofs.Blocks.{behind, ahead}
use Rattle.ids_core.specs.declared.ids.Dot.{Dot}
use Rattle.vv_core.specs.Vectors.{within, Covers}
use Rattle.tx_core.specs.declared.tx.Tx.{Tx}
use Rattle.tx_core.specs.declared.tx.Record.{Record}
use Rattle.dc_talk.specs.Records.{has, inside, firsts}
use Rattle.dc_talk.specs.Dots.{dots_of}
use Rattle.dc_talk.proofs.Dots.{has_In, In_has}
use Rattle.dc_talk.proofs.Firsts.{firsts_more}
use Rattle.point_log.specs.Splits.{first_txs, is_inside, IsSplit}
use Rattle.point_log.proofs.Inside.{inside_grows}

-- ---- one record more

-- what is inside a vector is of a record
pub inside_known : (A : List Record) (w : List ℕ) (d : Dot) → has d (dots_of A) ≡ false → has d (inside A w) ≡ false
inside_known A w d new = ⊎_elim (λ t. absurd (false≢true (sym new ∙ there t))) (λ f. f) (cases_Bool (has d (inside A w)))
  where
    there : has d (inside A w) ≡ true → has d (dots_of A) ≡ true
    there is =
        let m = In_from_map (λ (r : Record). r.tx.dot) (filter (λ r. within r.stamp w) A) d (has_In d (inside A w) is) in
        let f = In_from_filter (λ (r : Record). within r.stamp w) A m.0 m.1 in
        In_has d (dots_of A) (subst (λ d. In d (dots_of A)) (sym m.2) (In_map (λ (r : Record). r.tx.dot) A m.0 f.0))

-- one that is not within the vector changes nothing there
pub inside_stays : (A : List Record) (w : List ℕ) (r : Record) → within r.stamp w ≡ false → inside (A ++ r ∷ []) w ≡ inside A w
inside_stays A w r out =
    ap (map (λ (r : Record). r.tx.dot)) (filter-append (λ (r : Record). within r.stamp w) A (r ∷ []) ∙ ap (λ b. filter (λ (r : Record). within r.stamp w) A ++ cond b (r ∷ []) []) out ∙ append-nil (filter (λ (r : Record). within r.stamp w) A))

-- with nothing applied nothing is folded
pub split_none : (base : List ℕ) → IsSplit [] base [] []
split_none base = record { whole = Done; within = λ tx i. absurd i; rest = λ tx i. absurd i }

module _ (A : List Record) (base : List ℕ) (folded kept : List Tx) (r : Record) (split : IsSplit A base folded kept) (out : within r.stamp base ≡ false) where
  -- what is inside the base stays so
  stays : (tx : Tx) (b : Bool) → is_inside A base tx ≡ b → is_inside (A ++ r ∷ []) base tx ≡ b
  stays tx b is = ap (λ D. has tx.dot D) (inside_stays A base r out) ∙ is

  -- the first record of a dot is kept
  pub split_first : has r.tx.dot (dots_of A) ≡ false → IsSplit (A ++ r ∷ []) base folded (kept ++ r.tx ∷ [])
  split_first new = record {
    whole = subst (λ l. Perm l (first_txs (A ++ r ∷ []))) (append_assoc folded kept (r.tx ∷ [])) (subst (λ l. Perm ((folded ++ kept) ++ r.tx ∷ []) l) (sym txs) (ahead (folded ++ kept) (first_txs A) (r.tx ∷ []) split.whole));
    within = λ tx i. stays tx true (split.within tx i);
    rest = λ tx i. stays tx false (⊎_elim (λ j. split.rest tx j) (λ same. ap (is_inside A base) same ∙ inside_known A base r.tx.dot new) (In_more kept r.tx tx i));
  }
    where
      txs : first_txs (A ++ r ∷ []) ≡ first_txs A ++ r.tx ∷ []
      txs = ap (map (λ (r : Record). r.tx)) (firsts_more A r ∙ ap (λ b. firsts A ++ cond b [] (r ∷ [])) new) ∙ map-append (λ (r : Record). r.tx) (firsts A) (r ∷ [])

  -- another record of a dot adds nothing
  pub split_again : has r.tx.dot (dots_of A) ≡ true → IsSplit (A ++ r ∷ []) base folded kept
  split_again known = record {
    whole = subst (λ l. Perm (folded ++ kept) l) (sym txs) split.whole;
    within = λ tx i. stays tx true (split.within tx i);
    rest = λ tx i. stays tx false (split.rest tx i);
  }
    where
      txs : first_txs (A ++ r ∷ []) ≡ first_txs A
      txs = ap (map (λ (r : Record). r.tx)) (firsts_more A r ∙ (ap (λ b. firsts A ++ cond b [] (r ∷ [])) known ∙ append-nil (firsts A)))

-- ---- a later base

-- what of the kept ones is within the later base is folded, behind the others
pub split_on : (A : List Record) (base to : List ℕ) (folded kept : List Tx) → IsSplit A base folded kept → Covers to base → IsSplit A to (folded ++ filter (is_inside A to) kept) (filter (λ tx. not (is_inside A to tx)) kept)
split_on A base to folded kept split covers = record {
  whole = Then _ _ _ (subst (λ l. Perm l (folded ++ kept)) (sym (append_assoc folded (filter (is_inside A to) kept) (filter (λ tx. not (is_inside A to tx)) kept))) (behind folded (filter (is_inside A to) kept ++ filter (λ tx. not (is_inside A to tx)) kept) kept (both_ways (is_inside A to) kept))) split.whole;
  within = λ tx i. ⊎_elim (λ j. inside_grows A to base tx.dot covers (split.within tx j)) (λ j. (In_from_filter (is_inside A to) kept tx j).1) (In_either folded (filter (is_inside A to) kept) tx i);
  rest = λ tx i. not-true (is_inside A to tx) (In_from_filter (λ tx. not (is_inside A to tx)) kept tx i).1;
}
