-- Sums of numbers over lists, and of sums.
use Rattle.std.proofs.Common.{◌≡◌, ℕ, ◌+◌, inl, inr, ℤ, Bool, true, false, cond, List, [], ◌∷◌, ◌++◌, map, Option, Some, None, refl, sym, ap, ◌∙◌, arith}
use Rattle.std.specs.Prelude.{pos, ◌+ℤ◌, ◌-ℤ◌, flat_map, length}
use Rattle.std.specs.List.{cons_option}
use Rattle.std.specs.Option.{unwrap_or}
use Rattle.std.proofs.lemmas.Int.{ints}
use Rattle.std.proofs.Math.Seq.{take-append_seam, drop-append_seam}
use Rattle.std.proofs.lemmas.List.{length-map, map-append}
use Rattle.std.proofs.lemmas.List.Elements.{filter_map-append}
use Rattle.list_core.specs.Members.{In}
use Rattle.ids_core.specs.declared.ids.Dot.{Dot}
use Rattle.ids_core.specs.declared.object.ObjectId.{ObjectId}
use Rattle.ids_core.specs.Ids.{same_object}
use Rattle.obj_counter.specs.Counter.{total}
use Rattle.obj_bounded.specs.HolderRights.{rights_of}
use Rattle.tx_core.specs.declared.tx.Update.{Update}
use Rattle.tx_core.specs.Operations.{mark}
use Rattle.dc_talk.specs.Records.{has}
use Rattle.tx_graph.specs.Nodes.{Node}
use Rattle.tx_graph.specs.Values.{Act, change_of, delta_of, deltas_in, acts_from, acts_of, acts_over, nodes_in}
use Rattle.graph_rights.specs.Accounts.{sum_over, counted_if}
use Rattle.graph_rights.specs.Rights.{amount_in, amount_at, rights_by, rights_over, rights_in}
use Rattle.graph_rights.proofs.Accounts.{total-append}

-- ---- linear sums

sum_of_sums : {X : Type 0} (f g : X → ℤ) (xs : List X) → sum_over (λ x. f x +ℤ g x) xs ≡ sum_over f xs +ℤ sum_over g xs
sum_of_sums f g [] = omega (arith, ints)
sum_of_sums f g (x ∷ xs) = let rest = sum_of_sums f g xs in omega (arith, ints, rest)

sum_of_none : {X : Type 0} (xs : List X) → sum_over (λ x. pos 0) xs ≡ pos 0
sum_of_none [] = refl
sum_of_none (x ∷ xs) = let rest = sum_of_none xs in omega (arith, ints, rest)

pub sum_over-append : {X : Type 0} (f : X → ℤ) (xs ys : List X) → sum_over f (xs ++ ys) ≡ sum_over f xs +ℤ sum_over f ys
sum_over-append f [] ys = omega (arith, ints)
sum_over-append f (x ∷ xs) ys = let rest = sum_over-append f xs ys in omega (arith, ints, rest)

pub sum_over-map : {X Y : Type 0} (f : Y → ℤ) (g : X → Y) (xs : List X) → sum_over f (map g xs) ≡ sum_over (λ x. f (g x)) xs
sum_over-map f g [] = refl
sum_over-map f g (x ∷ xs) = ap (λ s. f (g x) +ℤ s) (sum_over-map f g xs)

pub total-map : {X : Type 0} (f : X → ℤ) (xs : List X) → total (map f xs) ≡ sum_over f xs
total-map f [] = refl
total-map f (x ∷ xs) = ap (λ s. f x +ℤ s) (total-map f xs)

-- sums by what is equal at each member
pub sum_over-agree : {X : Type 0} (f g : X → ℤ) (xs : List X) → ((x : X) → In x xs → f x ≡ g x) → sum_over f xs ≡ sum_over g xs
sum_over-agree f g [] same = refl
sum_over-agree f g (x ∷ xs) same = λ i. same x (inl refl) i +ℤ sum_over-agree f g xs (λ y j. same y (inr j)) i

-- rights are linear in the values of the cells
module _ (gains losses : List ObjectId) where
  pub rights_of_sums : (f g : ObjectId → ℤ) → rights_by gains losses (λ o. f o +ℤ g o) ≡ rights_by gains losses f +ℤ rights_by gains losses g
  rights_of_sums f g =
      let plus = sum_of_sums f g gains in
      let minus = sum_of_sums f g losses in
      omega (arith, ints, plus, minus)

  rights_of_none : rights_by gains losses (λ o. pos 0) ≡ pos 0
  rights_of_none =
      let plus = sum_of_none gains in
      let minus = sum_of_none losses in
      omega (arith, ints, plus, minus)

  pub rights_of_sum : {X : Type 0} (f : X → ObjectId → ℤ) (xs : List X) → rights_by gains losses (λ o. sum_over (λ x. f x o) xs) ≡ sum_over (λ x. rights_by gains losses (f x)) xs
  rights_of_sum f [] = rights_of_none
  rights_of_sum f (x ∷ xs) = rights_of_sums (f x) (λ o. sum_over (λ x. f x o) xs) ∙ ap (λ s. rights_by gains losses (f x) +ℤ s) (rights_of_sum f xs)

  pub rights_counted : (b : Bool) (f : ObjectId → ℤ) → rights_by gains losses (λ o. counted_if b (f o)) ≡ counted_if b (rights_by gains losses f)
  rights_counted true f = refl
  rights_counted false f = rights_of_none

  -- by equal values
  pub rights_agree : (f g : ObjectId → ℤ) → ((o : ObjectId) → f o ≡ g o) → rights_by gains losses f ≡ rights_by gains losses g
  rights_agree f g same = ap (rights_by gains losses) (λ i o. same o i)

-- the rights by values in a list are those by the value of each cell
pub rights_of_values : (gains losses : List ObjectId) (value : ObjectId → ℤ) → rights_of (length gains) (map value (gains ++ losses)) ≡ rights_by gains losses value
rights_of_values gains losses value =
    let plus : List ℤ = map value gains in
    let minus : List ℤ = map value losses in
    ap (rights_of (length gains)) (map-append value gains losses)
    ∙ (ap (λ n. rights_of n (plus ++ minus)) (sym (length-map gains value))
    ∙ ((λ i. total (take-append_seam plus minus i) -ℤ total (drop-append_seam plus minus i))
    ∙ (λ i. total-map value gains i -ℤ total-map value losses i)))

-- ---- counters over sets

-- the deltas of the acts on an object among updates
pub total_from : (o : ObjectId) (t : Node) (place : ℕ) (updates : List Update) → total (deltas_in (acts_from o t place updates)) ≡ sum_over (λ u. amount_at u o) updates
total_from o t place [] = refl
total_from o t place (u ∷ updates) = go (same_object u.object o) (total_from o t (place + 1) updates)
  where
    one : (d : Option ℤ) (ds : List ℤ) → total (cons_option d ds) ≡ unwrap_or d (pos 0) +ℤ total ds
    one None ds = omega (arith, ints)
    one (Some d) ds = refl

    go : (b : Bool) → total (deltas_in (acts_from o t (place + 1) updates)) ≡ sum_over (λ u. amount_at u o) updates → total (deltas_in (cond b (record { mark = mark t.rank t.dot place; deps = t.deps; op = u.op } ∷ acts_from o t (place + 1) updates) (acts_from o t (place + 1) updates))) ≡ counted_if b (amount_in u) +ℤ sum_over (λ u. amount_at u o) updates
    go true rest = one (delta_of (change_of u.op)) (deltas_in (acts_from o t (place + 1) updates)) ∙ ap (λ s. amount_in u +ℤ s) rest
    go false rest = omega (arith, ints, rest)

-- those of the nodes of a set
pub total_over : (nodes : List Node) (set : List Dot) (o : ObjectId) → total (deltas_in (acts_over nodes set o)) ≡ sum_over (λ t. counted_if (has t.dot set) (sum_over (λ u. amount_at u o) t.updates)) nodes
total_over [] set o = refl
total_over (t ∷ nodes) set o = go (has t.dot set) (total_over nodes set o)
  where
    go : (b : Bool) → total (deltas_in (acts_over nodes set o)) ≡ sum_over (λ t. counted_if (has t.dot set) (sum_over (λ u. amount_at u o) t.updates)) nodes → total (deltas_in (flat_map (acts_of o) (cond b (t ∷ nodes_in nodes set) (nodes_in nodes set)))) ≡ counted_if b (sum_over (λ u. amount_at u o) t.updates) +ℤ sum_over (λ t. counted_if (has t.dot set) (sum_over (λ u. amount_at u o) t.updates)) nodes
    go true rest =
        let split = ap total (filter_map-append (λ (act : Act). delta_of (change_of act.op)) (acts_of o t) (acts_over nodes set o)) ∙ total-append (deltas_in (acts_of o t)) (deltas_in (acts_over nodes set o)) in
        let here = total_from o t 0 t.updates in
        omega (arith, ints, split, here, rest)
    go false rest = omega (arith, ints, rest)

-- so rights over a set are the sum of what each node of the set adds
pub rights_are : (gains losses : List ObjectId) (nodes : List Node) (set : List Dot) → rights_over gains losses nodes set ≡ sum_over (λ t. counted_if (has t.dot set) (rights_in gains losses t.updates)) nodes
rights_are gains losses nodes set =
    rights_agree gains losses (λ o. total (deltas_in (acts_over nodes set o))) (λ o. sum_over (λ t. counted_if (has t.dot set) (sum_over (λ u. amount_at u o) t.updates)) nodes) (total_over nodes set)
    ∙ (rights_of_sum gains losses (λ t o. counted_if (has t.dot set) (sum_over (λ u. amount_at u o) t.updates)) nodes
    ∙ ap (λ f. sum_over f nodes) (λ i t. rights_counted gains losses (has t.dot set) (λ o. sum_over (λ u. amount_at u o) t.updates) i))
