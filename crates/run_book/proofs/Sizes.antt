-- The sizes of deltas, of joined lists and of updates.
use Rattle.std.proofs.Common.{◌≡◌, ℕ, ◌+◌, ◌*◌, ◌≤◌, ℤ, Bool, true, false, not, cond, List, [], ◌∷◌, ◌++◌, length, Option, Some, None, refl, ap, arith}
use Rattle.std.specs.Prelude.{filter, flat_map}
use Rattle.std.specs.List.{sum_by, cons_option}
use Rattle.std.proofs.lemmas.List.Sums.{sum_by-cons, sum_by-le}
use Rattle.std.proofs.lemmas.List.Filters.{sum_by-filter_both}
use Rattle.list_core.specs.Members.{In}
use Rattle.list_core.proofs.Members.{In-All}
use Rattle.ids_core.specs.declared.object.ObjectId.{ObjectId}
use Rattle.ids_core.specs.Ids.{same_object}
use Rattle.obj_counter.specs.Counter.{sizes}
use Rattle.tx_core.specs.declared.tx.Update.{Update}
use Rattle.tx_graph.specs.Values.{delta_of, change_of}

-- the sizes of two lists together
pub sizes-append : (xs ys : List ℤ) → sizes (xs ++ ys) ≡ sizes xs + sizes ys
sizes-append [] ys = omega arith
sizes-append (x ∷ xs) ys = omega (arith, sizes-append xs ys)

-- the sizes of joined lists are the sum of those of each
pub sizes-flat_map : {X : Type 0} (f : X → List ℤ) (xs : List X) → sizes (flat_map f xs) ≡ sum_by (λ x. sizes (f x)) xs
sizes-flat_map f [] = refl
sizes-flat_map f (x ∷ xs) = omega (arith, sizes-append (f x) (flat_map f xs), sizes-flat_map f xs, sum_by-cons (λ x. sizes (f x)) x xs)

-- a sum is at most as many times the most that a member adds as there are members
pub sum_by_most : {X : Type 0} (f : X → ℕ) (most : ℕ) (xs : List X) → ((x : X) → In x xs → f x ≤ most) → sum_by f xs ≤ length xs * most
sum_by_most f most xs each = sum_by-le f most xs (In-All (λ x. f x ≤ most) xs each)

-- a sum over the members that pass a test is at most that over all
pub sum_by_filter : {X : Type 0} (f : X → ℕ) (p : X → Bool) (xs : List X) → sum_by f (filter p xs) ≤ sum_by f xs
sum_by_filter f p xs = omega (arith, sum_by-filter_both p (λ x. not (p x)) (λ x. refl) f xs)

-- the deltas that updates add to the object
abbrev pub deltas_of : ObjectId → List Update → List ℤ
deltas_of o [] = []
deltas_of o (u ∷ us) = cond (same_object u.object o) (cons_option (delta_of (change_of u.op)) (deltas_of o us)) (deltas_of o us)

-- the deltas of updates and of those behind them
pub deltas_of-append : (o : ObjectId) (us vs : List Update) → deltas_of o (us ++ vs) ≡ deltas_of o us ++ deltas_of o vs
deltas_of-append o [] vs = refl
deltas_of-append o (u ∷ us) vs = go (same_object u.object o) (delta_of (change_of u.op)) (deltas_of-append o us vs)
  where
    go : (b : Bool) (delta : Option ℤ) → deltas_of o (us ++ vs) ≡ deltas_of o us ++ deltas_of o vs → cond b (cons_option delta (deltas_of o (us ++ vs))) (deltas_of o (us ++ vs)) ≡ cond b (cons_option delta (deltas_of o us)) (deltas_of o us) ++ deltas_of o vs
    go true None rest = rest
    go true (Some delta) rest = ap (λ l. delta ∷ l) rest
    go false delta rest = rest
