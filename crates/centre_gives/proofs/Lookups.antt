-- What is found among parts by their keys.
use Rattle.std.proofs.Common.{◌≡◌, Bool, true, false, cond, inl, inr, Some, None, List, [], ◌∷◌, map, refl, sym, ap, ◌∙◌}
use Rattle.std.specs.Cmp.{IsTotalOrder, tied_itself}
use Rattle.std.specs.List.Sorted.{IsStrictlySortedBy}
use Rattle.std.specs.Map.{lookup}
use Rattle.std.specs.declared.cmp.Ordering.{Ordering}
use Rattle.std.specs.declared.cmp.Ordering.TheVariants.{Less, Equal}
use Rattle.std.proofs.lemmas.Map.Keys.{sorted_tail}
use Rattle.std.proofs.lemmas.Map.Views.{All-after_first}
use Rattle.std.proofs.lemmas.Option.{none-some}
use Rattle.list_core.specs.Apart.{Apart}
use Rattle.list_core.specs.Members.{In}
use Rattle.list_core.proofs.Members.{All-In, In_map}

-- keys that ascend differ
pub apart_sorted : {X K : Type 0} {R : K → K → Ordering} → IsTotalOrder R → (key : X → K) (xs : List X) → IsStrictlySortedBy R (map key xs) → Apart key xs
apart_sorted order key [] sorted = tt
apart_sorted {X} {K} {R} order key (x ∷ xs) sorted = (differs, apart_sorted order key xs (sorted_tail R (key x) (map key xs) sorted))
  where
    differs : (y : X) → In y xs → key x ≡ key y → ⊥
    differs y i same =
        let below = All-In (λ k. R (key x) k ≡ Less) (map key xs) (key y) (All-after_first R (key x) (map key xs) sorted) (In_map key xs y i) in
        let tied : R (key x) (key x) ≡ Equal = tied_itself order (key x) in
        let less : R (key x) (key x) ≡ Less = ap (R (key x)) same ∙ below in
        absurd (cc)

module _ {X K V : Type 0} (key : X → K) (value : X → V) (eq : K → K → Bool) (exact : (a b : K) → eq a b ≡ true → a ≡ b) (same : (a b : K) → a ≡ b → eq a b ≡ true) where
  -- the keys of parts with their values
  abbrev entries : List X → List (K × V)
  entries xs = map (λ x. (key x, value x)) xs

  -- where keys differ, the value of each part is found
  pub found : (xs : List X) (x : X) → Apart key xs → In x xs → lookup (eq (key x)) (entries xs) ≡ Some (value x)
  found [] x apart i = absurd i
  found (y ∷ xs) x apart (inl is) = ap (λ b. cond b (Some (value y)) (lookup (eq (key x)) (entries xs))) (same (key x) (key y) (ap key is)) ∙ ap (λ z. Some (value z)) (sym is)
  found (y ∷ xs) x apart (inr i) = go (eq (key x) (key y)) refl (found xs x apart.1 i)
    where
      go : (b : Bool) → eq (key x) (key y) ≡ b → lookup (eq (key x)) (entries xs) ≡ Some (value x) → cond b (Some (value y)) (lookup (eq (key x)) (entries xs)) ≡ Some (value x)
      go true is rest = absurd (apart.0 x i (sym (exact (key x) (key y) is)))
      go false is rest = rest

  -- a key that no part has is not found
  pub not_found : (xs : List X) (k : K) → ((x : X) → In x xs → key x ≡ k → ⊥) → lookup (eq k) (entries xs) ≡ None
  not_found [] k other = refl
  not_found (x ∷ xs) k other = go (eq k (key x)) refl (not_found xs k (λ y i. other y (inr i)))
    where
      go : (b : Bool) → eq k (key x) ≡ b → lookup (eq k) (entries xs) ≡ None → cond b (Some (value x)) (lookup (eq k) (entries xs)) ≡ None
      go true is rest = absurd (other x (inl refl) (sym (exact k (key x) is)))
      go false is rest = rest

  -- what is found is the value of a part with that key
  pub from_found : (xs : List X) (k : K) (v : V) → lookup (eq k) (entries xs) ≡ Some v → (x : X) × In x xs × (key x ≡ k)
  from_found [] k v is = absurd (none-some v is)
  from_found (x ∷ xs) k v is = go (eq k (key x)) refl is (from_found xs k v)
    where
      go : (b : Bool) → eq k (key x) ≡ b → cond b (Some (value x)) (lookup (eq k) (entries xs)) ≡ Some v → (lookup (eq k) (entries xs) ≡ Some v → (y : X) × In y xs × (key y ≡ k)) → (y : X) × In y (x ∷ xs) × (key y ≡ k)
      go true here is rest = (x, inl refl, sym (exact k (key x) here))
      go false other is rest = let r = rest is in (r.0, inr r.1, r.2)
