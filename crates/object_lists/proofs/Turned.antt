-- The lists of objects after one of them changed.
use Rattle.std.proofs.Common.{◌≡◌, ◌⊎◌, inl, inr, Bool, true, false, cond, Option, None, List, [], sym, ap, ◌∙◌, subst}
use Rattle.std.specs.List.Retain.{IsFiltered}
use Rattle.std.specs.Map.{lookup}
use Rattle.std.specs.BTreeMap.{is_at}
use Rattle.std.proofs.lemmas.Bool.{cases_Bool}
use Rattle.ids_core.specs.declared.object.ObjectId.{ObjectId}
use Rattle.ids_core.specs.Ids.{same_object}
use Rattle.ids_core.specs.Same.{same_object-true}
use Rattle.ids_core.specs.Orders.{object_cmp, same_object-by_cmp}
use Rattle.object_lists.specs.Listed.{items_of, listed}

-- objects that differ do so in their order
pub other_object : (a b : ObjectId) → same_object a b ≡ false → is_at (object_cmp a) b ≡ false
other_object a b apart = sym (same_object-by_cmp a b) ∙ apart

-- objects that are equal in their order are the same
same_at : (a b : ObjectId) → is_at (object_cmp a) b ≡ true → a ≡ b
same_at a b here = same_object-true a b (same_object-by_cmp a b ∙ here)

module _ {T : Type 0} where
  -- the second lists have w at the object, and at each other one what the first have
  abbrev Turns : List (ObjectId × List T) → List (ObjectId × List T) → ObjectId → Option (List T) → Type 0
  Turns es fs k w = (q : ObjectId) → lookup (is_at (object_cmp q)) fs ≡ cond (is_at (object_cmp k) q) w (lookup (is_at (object_cmp q)) es)

  pub turned_apart : (es fs : List (ObjectId × List T)) (k : ObjectId) (w : Option (List T)) → Turns es fs k w → (q : ObjectId) → is_at (object_cmp k) q ≡ false → listed fs q ≡ listed es q
  turned_apart es fs k w t q apart = ap items_of (t q ∙ ap (λ b. cond b w (lookup (is_at (object_cmp q)) es)) apart)

  -- a list without items that is taken away
  pub cleared : (es fs : List (ObjectId × List T)) (k : ObjectId) → listed es k ≡ [] → Turns es fs k None → (q : ObjectId) → listed fs q ≡ listed es q
  cleared es fs k bare t q = at (cases_Bool (is_at (object_cmp k) q))
    where
      at : (is_at (object_cmp k) q ≡ true) ⊎ (is_at (object_cmp k) q ≡ false) → listed fs q ≡ listed es q
      at (inl e) = ap items_of (t q ∙ ap (λ b. cond b None (lookup (is_at (object_cmp q)) es)) e) ∙ sym (ap (listed es) (sym (same_at k q e)) ∙ bare)
      at (inr e) = turned_apart es fs k None t q e

-- what is left of a list, said of lists that are the same
pub filtered_same : {X P : Type 0} (R : P → X → Bool → P → Type 0) (p : P) (xs ys zs ws : List X) → xs ≡ zs → ys ≡ ws → IsFiltered R p zs ws → IsFiltered R p xs ys
filtered_same R p xs ys zs ws whole left is = subst (λ l. IsFiltered R p l ys) (sym whole) (subst (λ l. IsFiltered R p zs l) (sym left) is)
