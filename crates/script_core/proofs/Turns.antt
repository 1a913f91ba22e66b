-- What is done in turn, and for the other centres among the first ones in turn.
use Rattle.std.proofs.Common.{◌≡◌, ◌≢◌, ◌≤◌, inl, inr, ℕ, suc, ◌+◌, ◌==◌, cond, not, filter, List, [], ◌∷◌, ◌++◌, refl, sym, ap, ◌∙◌, subst, arith}
use Rattle.std.proofs.lemmas.Bool.{eq-eqb, ne_eqb}
use Rattle.std.proofs.lemmas.List.{append-nil, append_assoc, map-id}
use Rattle.std.proofs.lemmas.List.Elements.{filter-append}
use Rattle.std.proofs.lemmas.List.FromFn.{map-range_with_len_more}
use Rattle.list_core.specs.Members.{In}
use Rattle.list_core.proofs.Members.{In_from_filter}
use Rattle.list_core.proofs.Ranges.{In_from_range}
use Rattle.vv_core.specs.Vectors.{centres}
use Rattle.dc_talk.specs.declared.log.Deed.{Deed}
use Rattle.script_core.specs.Carrying.{InTurn, no_turn, next_turn}
use Rattle.script_core.specs.Rounds.{others}

-- ---- turns

-- turns behind turns
pub turns_then : {X : Type 0} (Do : X → List Deed → Type 0) (xs ys : List X) (ds es : List Deed) → InTurn Do xs ds → InTurn Do ys es → InTurn Do (xs ++ ys) (ds ++ es)
turns_then Do [] ys ds es no_turn later = later
turns_then Do (x ∷ xs) ys ds es (next_turn front rest whole does more) later = next_turn front (rest ++ es) (ap (λ all. all ++ es) whole ∙ append_assoc front rest es) does (turns_then Do xs ys rest es more later)

-- one turn
pub turns_one : {X : Type 0} (Do : X → List Deed → Type 0) (x : X) (ds : List Deed) → Do x ds → InTurn Do (x ∷ []) ds
turns_one Do x ds does = next_turn ds [] (sym (append-nil ds)) does no_turn

-- what is done for each in turn gives what follows from it
turns_turn : (Do Be : ℕ → List Deed → Type 0) (xs : List ℕ) (ds : List Deed) → ((x : ℕ) → In x xs → (es : List Deed) → Do x es → Be x es) → InTurn Do xs ds → InTurn Be xs ds
turns_turn Do Be [] ds turn no_turn = no_turn
turns_turn Do Be (x ∷ xs) ds turn (next_turn first later whole does more) = next_turn first later whole (turn x (inl refl) first does) (turns_turn Do Be xs later (λ y there. turn y (inr there)) more)

-- ---- one centre more

-- it is the last
pub centres_more : (k : ℕ) → centres (suc k) ≡ centres k ++ (1 + k) ∷ []
centres_more k =
    let next : suc k ≡ k + 1 = omega arith in
    ap centres next ∙ (sym (map-id (centres (k + 1))) ∙ (map-range_with_len_more (λ n. n) 1 k (1 + k) refl ∙ ap (λ all. all ++ (1 + k) ∷ []) (map-id (centres k))))

-- it is another one, unless it is the centre itself
pub others_more : (k i : ℕ) → others (suc k) i ≡ others k i ++ cond (not (1 + k == i)) ((1 + k) ∷ []) []
others_more k i = ap (filter (λ j. not (j == i))) (centres_more k) ∙ filter-append (λ j. not (j == i)) (centres k) ((1 + k) ∷ [])

-- there is the next one
others_next : (k i next : ℕ) → next ≡ k + 1 → next ≢ i → others next i ≡ others k i ++ next ∷ []
others_next k i next is other =
    let this : next ≡ suc k = omega (arith, is) in
    let same : 1 + k ≡ next = omega (arith, is) in
    ap (λ n. others n i) this ∙ (others_more k i
    ∙ (ap (λ n. others k i ++ cond (not (n == i)) (n ∷ []) []) same
    ∙ ap (λ test. others k i ++ cond (not test) (next ∷ []) []) (ne_eqb next i other)))

-- but not the centre itself
others_self : (k i next : ℕ) → next ≡ k + 1 → next ≡ i → others next i ≡ others k i
others_self k i next is self =
    let this : next ≡ suc k = omega (arith, is) in
    let same : 1 + k ≡ next = omega (arith, is) in
    ap (λ n. others n i) this ∙ (others_more k i
    ∙ (ap (λ n. others k i ++ cond (not (n == i)) (n ∷ []) []) same
    ∙ (ap (λ test. others k i ++ cond (not test) (next ∷ []) []) (eq-eqb next i self) ∙ append-nil (others k i))))

-- they are numbered from 1
others_low : (k i j : ℕ) → In j (others k i) → (1 ≤ j) × (j ≤ k)
others_low k i j there = let low = In_from_range 1 k j (In_from_filter (λ j. not (j == i)) (centres k) j there).0 in (low.0, omega (arith, low.1))

-- ---- turns of the other centres

-- what is done for each of those among the first ones gives what follows from it
pub turns_among : (Do Be : ℕ → List Deed → Type 0) (k i : ℕ) (ds : List Deed) → ((j : ℕ) → 1 ≤ j → j ≤ k → (es : List Deed) → Do j es → Be j es) → InTurn Do (others k i) ds → InTurn Be (others k i) ds
turns_among Do Be k i ds turn = turns_turn Do Be (others k i) ds (λ j there. let low = others_low k i j there in turn j low.0 low.1)

module _ {Do : ℕ → List Deed → Type 0} (k i next : ℕ) (is : next ≡ k + 1) where
  -- what is done for the next one too
  pub turns_next : (ds es : List Deed) → next ≢ i → InTurn Do (others k i) ds → Do next es → InTurn Do (others next i) (ds ++ es)
  turns_next ds es other first later = subst (λ all. InTurn Do all (ds ++ es)) (sym (others_next k i next is other)) (turns_then Do (others k i) (next ∷ []) ds es first (turns_one Do next es later))

  -- but not for the centre itself
  pub turns_self : (ds : List Deed) → next ≡ i → InTurn Do (others k i) ds → InTurn Do (others next i) ds
  turns_self ds self first = subst (λ all. InTurn Do all ds) (sym (others_self k i next is self)) first
