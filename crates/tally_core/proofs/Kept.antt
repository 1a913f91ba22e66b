-- Nothing and its test; what stands in a tree that is updated at one place.
use Rattle.std.proofs.Common.{◌≡◌, true, cond, not, Option, Some, None, is_some, refl, sym, ap, subst, ◌∙◌, arith, List}
use Rattle.std.specs.Prelude.{ℤ, pos}
use Rattle.std.specs.Ordering.{int_eq}
use Rattle.std.proofs.lemmas.Int.{ints}
use Rattle.std.proofs.lemmas.Bool.{and_parts}
use Rattle.std.specs.Map.{lookup}
use Rattle.std.specs.BTreeMap.{BTreeMap, get, is_at, Updates}
use Rattle.tally_core.specs.declared.place.Place.{Place}
use Rattle.tally_core.specs.declared.place.Cell.{Cell}
use Rattle.tally_core.specs.Places.{place_cmp}
use Rattle.tally_core.specs.Cells.{nothing, is_nothing}

pub nothing_is : {P : Type 0} (c : Cell P) → is_nothing c ≡ true → c ≡ nothing
nothing_is {P} c e =
    let parts = and_parts (int_eq c.count (pos 0)) (not (is_some c.kept)) e in
    let count : c.count ≡ pos 0 = nought c.count parts.0 in
    λ i. record { count = count i; kept = none c.kept parts.1 i }
  where
    nought : (n : ℤ) → int_eq n (pos 0) ≡ true → n ≡ pos 0
    nought n e = grind (arith, ints)

    none : (o : Option P) → not (is_some o) ≡ true → o ≡ None
    none None e = refl
    none (Some p) e = cc

module _ {P : Type 0} where
  abbrev pub find : List (Place × Cell P) → Place → Option (Cell P)
  find es p = lookup (is_at (place_cmp p)) es

  -- the second list has w at the place, and at each other one what the first has
  abbrev pub Updated : List (Place × Cell P) → List (Place × Cell P) → Place → Option (Cell P) → Type 0
  Updated es fs p w = (q : Place) → find fs q ≡ cond (is_at (place_cmp p) q) w (find es q)

-- Of an entry of a map: what stands there, and the entries once a cell is written there, or none is left.
module _ {P E : Type 0} (m : BTreeMap Place (Cell P)) (p : Place) (f e : E) (is : f ≡ e) where
  pub found : (value : E → Option (Cell P)) (c : Cell P) → value f ≡ get place_cmp m p → value e ≡ Some c → find m.entries p ≡ Some c
  found value c at there = sym at ∙ (ap value is ∙ there)

  pub missed : (match : E → Type 0 → Type 0 → Type 0) (A : Type 0) → match f A (get place_cmp m p ≡ None) → match e A (get place_cmp m p ≡ None)
  missed match A h = subst (λ e. match e A (get place_cmp m p ≡ None)) is h

  pub written : (fs : List (Place × Cell P)) (with : E → Cell P → BTreeMap Place (Cell P)) (v w : Cell P) → fs ≡ (with e w).entries → w ≡ v → ((w : Cell P) → Updates place_cmp m (with f w) p (Some w)) → Updated m.entries fs p (Some v)
  written fs with v w ends same u q = ap (λ es. find es q) (ends ∙ (ap (λ e. (with e w).entries) (sym is) ∙ ap (λ w. (with f w).entries) same)) ∙ (u v).0 q

  pub taken : (fs : List (Place × Cell P)) (out : E → BTreeMap Place (Cell P)) → fs ≡ (out e).entries → Updates place_cmp m (out f) p None → Updated m.entries fs p None
  taken fs out ends u q = ap (λ es. find es q) (ends ∙ ap (λ e. (out e).entries) (sym is)) ∙ u.0 q
