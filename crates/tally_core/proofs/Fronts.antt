-- The entries under a name stand together, from its least place on.
use Rattle.std.proofs.Common.{◌≡◌, ℕ, arith, ◌⊎◌, inl, inr, true, false, cond, List, [], ◌∷◌, ◌++◌, refl, sym, ap, ◌∙◌}
use Rattle.std.proofs.lemmas.List.{append-nil}
use Rattle.std.proofs.lemmas.Bool.Decides.{nat_tests}
use Rattle.std.specs.Ordering.{is_eq, is_le, nat_cmp, ordering_then, ordering_reverse}
use Rattle.std.specs.declared.cmp.Ordering.{Ordering}
use Rattle.std.specs.declared.cmp.Ordering.TheVariants.{Less, Equal, Greater}
use Rattle.std.specs.declared.ops.Bound.TheVariants.{Included, Unbounded}
use Rattle.std.specs.BTreeMap.Range.{entries_between}
use Rattle.std.specs.Map.{keys_of}
use Rattle.std.specs.List.{AllByRecursion}
use Rattle.std.specs.List.Sorted.{IsStrictlySortedBy}
use Rattle.ids_core.specs.declared.ids.OpId.{OpId}
use Rattle.ids_core.specs.Orders.{id_cmp, dot_cmp, name_cmp, name_cmp_total, name_cmp_same}
use Rattle.tally_core.specs.declared.place.Place.{Place}
use Rattle.tally_core.specs.declared.place.Cell.{Cell}
use Rattle.tally_core.specs.Places.{place, place_cmp, least_id, same_name}
use Rattle.tally_core.specs.Live.{under}

least_nat : (n : ℕ) → is_le (nat_cmp 0 n) ≡ true
least_nat n = grind (arith, nat_tests)

le_then : (r s : Ordering) → is_le r ≡ true → is_le s ≡ true → is_le (ordering_then r s) ≡ true
le_then Less s e f = refl
le_then Equal s e f = f
le_then Greater s e f = cc

least_le : (id : OpId) → is_le (id_cmp least_id id) ≡ true
least_le id = le_then (dot_cmp least_id.dot id.dot) (nat_cmp 0 id.place) (le_then (nat_cmp 0 id.dot.client) (nat_cmp 0 id.dot.number) (least_nat id.dot.client) (least_nat id.dot.number)) (least_nat id.place)

-- the first part of a then is no more than the whole
first_le : (r s : Ordering) → ordering_then r s ≡ Less → (r ≡ Less) ⊎ (r ≡ Equal)
first_le Less s e = inl refl
first_le Equal s e = inr refl
first_le Greater s e = cc

module _ {P : Type 0} where
  -- the entries up to the first of another name
  abbrev pub front : List ℕ → List (Place × Cell P) → List (Place × Cell P)
  front name [] = []
  front name (e ∷ es) = cond (same_name e.0.name name) (e ∷ front name es) []

  -- the entries from the least place of the name on
  abbrev pub from_name : List ℕ → List (Place × Cell P) → List (Place × Cell P)
  from_name name es = entries_between place_cmp (Included (place name least_id)) Unbounded es

  none_under : (name low : List ℕ) (id : OpId) → name_cmp name low ≡ Less → (es : List (Place × Cell P)) → AllByRecursion (λ p. place_cmp (place low id) p ≡ Less) (keys_of es) → under name es ≡ []
  none_under name low id less [] h = refl
  none_under name low id less (e ∷ es) h = rw (other (first_le (name_cmp low e.0.name) (id_cmp id e.0.id) h.0)) (none_under name low id less es h.1)
    where
      above : (name_cmp low e.0.name ≡ Less) ⊎ (name_cmp low e.0.name ≡ Equal) → name_cmp name e.0.name ≡ Less
      above (inl l) = name_cmp_total.trans name low e.0.name less l
      above (inr s) = ap (name_cmp name) (sym (name_cmp_same low e.0.name s)) ∙ less

      other : (name_cmp low e.0.name ≡ Less) ⊎ (name_cmp low e.0.name ≡ Equal) → same_name e.0.name name ≡ false
      other h = ap is_eq (name_cmp_total.antisymm e.0.name name ∙ ap ordering_reverse (above h))

  front_under : (name : List ℕ) (es : List (Place × Cell P)) → IsStrictlySortedBy place_cmp (keys_of es) → front name (from_name name es) ≡ under name es
  unfolding IsStrictlySortedBy
  front_under name [] h = refl
  front_under name (e ∷ es) h = at (name_cmp name e.0.name) refl (front_under name es h.1)
    where
      back : name_cmp e.0.name name ≡ ordering_reverse (name_cmp name e.0.name)
      back = name_cmp_total.antisymm e.0.name name

      at : (o : Ordering) → name_cmp name e.0.name ≡ o → front name (from_name name es) ≡ under name es → front name (from_name name (e ∷ es)) ≡ under name (e ∷ es)
      at Less p ih = rw (p, back, p) (sym (none_under name e.0.name e.0.id p es h.0))
      at Equal p ih = rw (p, back, p, least_le e.0.id, back, p) (ap (λ l. e ∷ l) ih)
      at Greater p ih = rw (p, back, p) ih

-- what is left when nothing is left
ended : {X : Type 0} (xs ys all : List X) → ys ≡ [] → xs ++ ys ≡ all → xs ≡ all
ended xs ys all none is = sym (append-nil xs) ∙ (ap (λ ys. xs ++ ys) (sym none) ∙ is)

-- the front ends before another name
pub front_other : {P : Type 0} (name : List ℕ) (es rest : List (Place × Cell P)) (p : Place) (c : Cell P) (r : Ordering) → es ≡ (p, c) ∷ rest → r ≡ name_cmp p.name name → false ≡ is_eq r → front name es ≡ []
front_other name es rest p c r is order other = rw (is, ← order, ← other) refl

-- what was made of the front, once it has ended, is made of all entries under the name
pub front_done : {P Y : Type 0} (f : List (Place × Cell P) → List Y) (name : List ℕ) (es rest : List (Place × Cell P)) (items : List Y) → IsStrictlySortedBy place_cmp (keys_of es) → f [] ≡ [] → front name rest ≡ [] → items ++ f (front name rest) ≡ f (front name (from_name name es)) → items ≡ f (under name es)
front_done f name es rest items sorted none over is = ended items (f (front name rest)) (f (front name (from_name name es))) (ap f over ∙ none) is ∙ ap f (front_under name es sorted)
