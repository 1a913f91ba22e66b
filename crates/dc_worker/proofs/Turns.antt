-- What is done over routes and detours in turn.
use Rattle.std.proofs.Common.{◌≡◌, ◌≢◌, ℕ, suc, ◌+◌, ◌==◌, ◌&&◌, ◌⊎◌, inl, inr, Bool, true, false, not, cond, List, [], ◌∷◌, ◌++◌, map, filter, Option, refl, sym, ap, ◌∙◌, subst, arith}
use Rattle.std.specs.Prelude.{flat_map}
use Rattle.std.proofs.lemmas.Bool.{eq-eqb, ne_eqb}
use Rattle.std.proofs.lemmas.List.{append-nil, map-append}
use Rattle.std.proofs.lemmas.List.Elements.{filter-append}
use Rattle.std.proofs.lemmas.Grind.{flat_map-append}
use Rattle.vv_core.specs.Vectors.{centres}
use Rattle.dc_talk.specs.declared.line.ShipEnd.{ShipEnd}
use Rattle.dc_talk.specs.declared.log.Deed.{Deed}
use Rattle.dc_talk.specs.Acting.{Acting}
use Rattle.script_core.specs.Carrying.{route, detour, Relays, InTurn, no_turn}
use Rattle.dc_worker.specs.declared.rounds.Round.{Round}
use Rattle.dc_worker.specs.Work.{CarriesSuch}
use Rattle.dc_worker.specs.Rounds.{Does, DoesRelay, routes_from, detours_to, detours_from}
use Rattle.dc_worker.proofs.Work.{adds_none, adds_then}
use Rattle.script_core.proofs.Provenance.{carries_both}
use Rattle.script_core.proofs.Turns.{turns_then, turns_one, centres_more}

-- ---- deeds of two kinds, one behind the other

-- deeds of one kind and then of another, where both together are of a third one
pub carries_such_then : (Are Bes Both : List Deed → Type 0) (a b c : Acting) → ((ds es : List Deed) → Are ds → Bes es → Both (ds ++ es)) → CarriesSuch Are a b → CarriesSuch Bes b c → CarriesSuch Both a c
carries_such_then Are Bes Both a b c both first later = record {
  deeds = first.deeds ++ later.deeds;
  such = both first.deeds later.deeds first.such later.such;
  adds = adds_then a b c first.deeds later.deeds first.adds later.adds;
  carries = carries_both first.deeds later.deeds first.carries later.carries;
}

-- ---- turns

-- no turn
pub turns_none : {X : Type 0} (Do : X → List Deed → Type 0) (a : Acting) → CarriesSuch (InTurn Do []) a a
turns_none Do a = record { deeds = []; such = no_turn; adds = adds_none a; carries = tt }

-- what is done once is one turn
pub does_once : {X : Type 0} (Do : X → List Deed → Type 0) (x : X) (a b : Acting) → CarriesSuch (Do x) a b → CarriesSuch (InTurn Do (x ∷ [])) a b
does_once Do x a b does = record { deeds = does.deeds; such = turns_one Do x does.deeds does.such; adds = does.adds; carries = does.carries }

-- ---- one centre more of those that a test keeps

module _ {X : Type 0} (Do : X → List Deed → Type 0) (part : List ℕ → List X) (spread : (xs ys : List ℕ) → part (xs ++ ys) ≡ part xs ++ part ys) (keep : ℕ → Bool) (k next : ℕ) (is : next ≡ k + 1) where
  -- the part of those so far grows by that of the next one, where the test keeps that
  part_more : part (filter keep (centres next)) ≡ part (filter keep (centres k)) ++ part (cond (keep next) (next ∷ []) [])
  part_more =
      let this : next ≡ suc k = omega (arith, is) in
      let same : 1 + k ≡ next = omega (arith, is) in
      ap (λ n. part (filter keep (centres n))) this
      ∙ (ap (λ all. part (filter keep all)) (centres_more k)
      ∙ (ap part (filter-append keep (centres k) ((1 + k) ∷ []))
      ∙ (spread (filter keep (centres k)) (cond (keep (1 + k)) ((1 + k) ∷ []) [])
      ∙ ap (λ j. part (filter keep (centres k)) ++ part (cond (keep j) (j ∷ []) [])) same)))

  -- what is done over the part of those so far, and over that of the next one
  pub over_kept : (a b c : Acting) → keep next ≡ true → CarriesSuch (InTurn Do (part (filter keep (centres k)))) a b → CarriesSuch (InTurn Do (part (next ∷ []))) b c → CarriesSuch (InTurn Do (part (filter keep (centres next)))) a c
  over_kept a b c kept before does =
      let front : List X = part (filter keep (centres k)) in
      let all : part (filter keep (centres next)) ≡ front ++ part (next ∷ []) = part_more ∙ ap (λ test. part (filter keep (centres k)) ++ part (cond test (next ∷ []) [])) kept in
      subst (λ all. CarriesSuch (InTurn Do all) a c) (sym all)
      (carries_such_then (InTurn Do front) (InTurn Do (part (next ∷ []))) (InTurn Do (front ++ part (next ∷ []))) a b c (λ ds es first later. turns_then Do front (part (next ∷ [])) ds es first later) before does)

  -- where the next one is left out, that is all
  pub over_left : (a b : Acting) → part [] ≡ [] → keep next ≡ false → CarriesSuch (InTurn Do (part (filter keep (centres k)))) a b → CarriesSuch (InTurn Do (part (filter keep (centres next)))) a b
  over_left a b empty left before =
      let front : List X = part (filter keep (centres k)) in
      let all : part (filter keep (centres next)) ≡ front =
      part_more ∙ (ap (λ test. part (filter keep (centres k)) ++ part (cond test (next ∷ []) [])) left ∙ (ap (λ none. part (filter keep (centres k)) ++ none) empty ∙ append-nil front)) in
      subst (λ all. CarriesSuch (InTurn Do all) a b) (sym all) before

-- ---- the routes from a centre

-- a round over the routes to the first centres, and over that to the next one
pub over_next : (round : Round) (k from to : ℕ) (a b c : Acting) → to ≡ k + 1 → from ≢ to → CarriesSuch (InTurn (Does round) (routes_from k from)) a b → CarriesSuch (Does round (route from to)) b c → CarriesSuch (InTurn (Does round) (routes_from to from)) a c
over_next round k from to a b c next other before does = over_kept (Does round) (map (route from)) (map-append (route from)) (λ j. not (from == j)) k to next a b c (ap not (ne_eqb from to other)) before (does_once (Does round) (route from to) b c does)

-- but not over one to itself
pub over_self : (round : Round) (k from to : ℕ) (a b : Acting) → to ≡ k + 1 → from ≡ to → CarriesSuch (InTurn (Does round) (routes_from k from)) a b → CarriesSuch (InTurn (Does round) (routes_from to from)) a b
over_self round k from to a b next self before = over_left (Does round) (map (route from)) (map-append (route from)) (λ j. not (from == j)) k to next a b refl (ap not (eq-eqb from to self)) before

-- ---- all routes

-- with one centre more there is its part too
parts_more : {X : Type 0} (part : ℕ → List X) (k next : ℕ) → next ≡ k + 1 → flat_map part (centres next) ≡ flat_map part (centres k) ++ part next
parts_more part k next is =
    let this : next ≡ suc k = omega (arith, is) in
    let same : 1 + k ≡ next = omega (arith, is) in
    ap (λ n. flat_map part (centres n)) this
    ∙ (ap (flat_map part) (centres_more k)
    ∙ (flat_map-append part (centres k) ((1 + k) ∷ [])
    ∙ (ap (λ more. flat_map part (centres k) ++ more) (append-nil (part (1 + k)))
    ∙ ap (λ j. flat_map part (centres k) ++ part j) same)))

-- what is done over the parts of the first centres, and over that of the next one
pub over_more : {X : Type 0} (Do : X → List Deed → Type 0) (part : ℕ → List X) (k next : ℕ) (a b c : Acting) → next ≡ k + 1 → CarriesSuch (InTurn Do (flat_map part (centres k))) a b → CarriesSuch (InTurn Do (part next)) b c → CarriesSuch (InTurn Do (flat_map part (centres next))) a c
over_more Do part k next a b c is before does =
    subst (λ all. CarriesSuch (InTurn Do all) a c) (sym (parts_more part k next is))
    (carries_such_then (InTurn Do (flat_map part (centres k))) (InTurn Do (part next)) (InTurn Do (flat_map part (centres k) ++ part next)) a b c
    (λ ds es first later. turns_then Do (flat_map part (centres k)) (part next) ds es first later) before does)

-- ---- detours

-- relays of an origin's records to the first centres, and to the next one
pub relay_next : (k from origin to : ℕ) (end : Option ShipEnd) (a b c : Acting) → to ≡ k + 1 → from ≢ to → origin ≢ to → CarriesSuch (InTurn DoesRelay (detours_to from origin k)) a b → CarriesSuch (λ deeds. Relays (detour from origin to) deeds end) b c → CarriesSuch (InTurn DoesRelay (detours_to from origin to)) a c
relay_next k from origin to end a b c next apart away before does =
    let kept : (not (from == to) && not (origin == to)) ≡ true = λ i. not (ne_eqb from to apart i) && not (ne_eqb origin to away i) in
    let one : CarriesSuch (DoesRelay (detour from origin to)) b c = record { deeds = does.deeds; such = (end, does.such); adds = does.adds; carries = does.carries } in
    over_kept DoesRelay (map (detour from origin)) (map-append (detour from origin)) (λ j. not (from == j) && not (origin == j)) k to next a b c kept before (does_once DoesRelay (detour from origin to) b c one)

-- but not to the centre that hands on, nor to the origin
pub relay_self : (k from origin to : ℕ) (a b : Acting) → to ≡ k + 1 → (from ≡ to) ⊎ (origin ≡ to) → CarriesSuch (InTurn DoesRelay (detours_to from origin k)) a b → CarriesSuch (InTurn DoesRelay (detours_to from origin to)) a b
relay_self k from origin to a b next which before = over_left DoesRelay (map (detour from origin)) (map-append (detour from origin)) (λ j. not (from == j) && not (origin == j)) k to next a b refl (left which) before
  where
    none : (test : Bool) → (test && false) ≡ false
    none true = refl
    none false = refl

    left : (from ≡ to) ⊎ (origin ≡ to) → (not (from == to) && not (origin == to)) ≡ false
    left (inl same) = ap (λ test. not test && not (origin == to)) (eq-eqb from to same)
    left (inr same) = ap (λ test. not (from == to) && not test) (eq-eqb origin to same) ∙ none (not (from == to))

-- relays of the records of the first origins, and of the next one
pub origin_next : (n k from origin : ℕ) (a b c : Acting) → origin ≡ k + 1 → from ≢ origin → CarriesSuch (InTurn DoesRelay (detours_from n from k)) a b → CarriesSuch (InTurn DoesRelay (detours_to from origin n)) b c → CarriesSuch (InTurn DoesRelay (detours_from n from origin)) a c
origin_next n k from origin a b c next apart before does =
    over_kept DoesRelay (flat_map (λ o. detours_to from o n)) (flat_map-append (λ o. detours_to from o n)) (λ o. not (from == o)) k origin next a b c (ap not (ne_eqb from origin apart)) before
    (subst (λ all. CarriesSuch (InTurn DoesRelay all) b c) (sym (append-nil (detours_to from origin n))) does)

-- but not of those of the centre that hands on
pub origin_self : (n k from origin : ℕ) (a b : Acting) → origin ≡ k + 1 → from ≡ origin → CarriesSuch (InTurn DoesRelay (detours_from n from k)) a b → CarriesSuch (InTurn DoesRelay (detours_from n from origin)) a b
origin_self n k from origin a b next same before = over_left DoesRelay (flat_map (λ o. detours_to from o n)) (flat_map-append (λ o. detours_to from o n)) (λ o. not (from == o)) k origin next a b refl (ap not (eq-eqb from origin same)) before
