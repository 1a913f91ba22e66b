-- Where the elements of a filtered list stand, and what holds of each after those before it.
use Rattle.std.proofs.Common.{◌≡◌, ℕ, zero, suc, ◌≤◌, List, [], ◌∷◌, length, take, drop, Option, Some, None, refl, sym, ap, ◌∙◌, subst, arith}
use Rattle.std.specs.Prelude.{slice_get}
use Rattle.std.specs.List.{filter_map, cons_option}
use Rattle.std.proofs.lemmas.Option.{none-some, same_Some}
use Rattle.std.proofs.lemmas.List.{take-append-drop}
use Rattle.std.proofs.lemmas.List.Elements.{filter_map-append}
use Rattle.std.proofs.Math.Seq.{take-append_seam}
use Rattle.list_core.specs.Moments.{Each}

-- ---- places

-- the element of a list from which one of the filtered list came, and what the filter leaves of those
-- before it
pub record FromPlace {X C : Type 0} (f : X → Option C) (xs : List X) (k : ℕ) (c : C) : Type 0 where
  pub place : ℕ
  pub item : X
  pub there : slice_get xs place ≡ Some item
  pub gives : f item ≡ Some c
  pub front : filter_map f (take place xs) ≡ take k (filter_map f xs)

-- each element of the filtered list came from one
pub from_place : {X C : Type 0} (f : X → Option C) (xs : List X) (k : ℕ) (c : C) → slice_get (filter_map f xs) k ≡ Some c → FromPlace f xs k c
from_place f [] k c there = absurd (none-some c there)
from_place {X} {C} f (x ∷ xs) k c there = go (λ j r. from_place f xs j c r) (f x) refl k there
  where
    skipped : f x ≡ None → (k : ℕ) → FromPlace f xs k c → FromPlace f (x ∷ xs) k c
    skipped is k r = record {
      place = suc r.place;
      item = r.item;
      there = r.there;
      gives = r.gives;
      front = ap (λ o. cons_option o (filter_map f (take r.place xs))) is ∙ (r.front ∙ sym (ap (λ o. take k (cons_option o (filter_map f xs))) is));
    }

    counted : (d : C) → f x ≡ Some d → (k : ℕ) → FromPlace f xs k c → FromPlace f (x ∷ xs) (suc k) c
    counted d is k r = record {
      place = suc r.place;
      item = r.item;
      there = r.there;
      gives = r.gives;
      front = ap (λ o. cons_option o (filter_map f (take r.place xs))) is ∙ (ap (λ l. d ∷ l) r.front ∙ sym (ap (λ o. take (suc k) (cons_option o (filter_map f xs))) is));
    }

    go : ((j : ℕ) → slice_get (filter_map f xs) j ≡ Some c → FromPlace f xs j c) → (o : Option C) → f x ≡ o → (k : ℕ) → slice_get (cons_option o (filter_map f xs)) k ≡ Some c → FromPlace f (x ∷ xs) k c
    go rest None is k there = skipped is k (rest k there)
    go rest (Some d) is zero there = record { place = 0; item = x; there = refl; gives = is ∙ there; front = refl }
    go rest (Some d) is (suc k) there = counted d is k (rest k there)

-- what holds of each element of a filtered list after those before it
pub each_filtered : {X C : Type 0} (f : X → Option C) (xs : List X) (P : List C → C → Type 0) → ((p : ℕ) (x : X) (c : C) → slice_get xs p ≡ Some x → f x ≡ Some c → P (filter_map f (take p xs)) c) → Each P (filter_map f xs)
each_filtered f xs P step = record { holds = λ k c there. let r = from_place f xs k c there in subst (λ l. P l c) r.front (step r.place r.item c r.there r.gives) }

-- the place in the filtered list of what the filter gives of an element
pub record ToPlace {X C : Type 0} (f : X → Option C) (xs : List X) (p : ℕ) (c : C) : Type 0 where
  pub there : slice_get (filter_map f xs) (length (filter_map f (take p xs))) ≡ Some c
  pub front : take (length (filter_map f (take p xs))) (filter_map f xs) ≡ filter_map f (take p xs)

-- the front of a list gives the front of the filtered list
pub filtered_front : {X C : Type 0} (f : X → Option C) (xs : List X) (p : ℕ) → take (length (filter_map f (take p xs))) (filter_map f xs) ≡ filter_map f (take p xs)
filtered_front f xs p =
    ap (λ l. take (length (filter_map f (take p xs))) (filter_map f l)) (sym (take-append-drop p xs))
    ∙ (ap (take (length (filter_map f (take p xs)))) (filter_map-append f (take p xs) (drop p xs))
    ∙ take-append_seam (filter_map f (take p xs)) (filter_map f (drop p xs)))

-- what the filter gives of an element has its place
pub to_place : {X C : Type 0} (f : X → Option C) (xs : List X) (p : ℕ) (x : X) (c : C) → slice_get xs p ≡ Some x → f x ≡ Some c → ToPlace f xs p c
to_place {X} {C} f xs p x c there gives = record { there = placed xs p there; front = filtered_front f xs p }
  where
    behind : (o : Option C) (xs : List X) (p : ℕ) → slice_get (filter_map f xs) (length (filter_map f (take p xs))) ≡ Some c → slice_get (cons_option o (filter_map f xs)) (length (cons_option o (filter_map f (take p xs)))) ≡ Some c
    behind None xs p rest = rest
    behind (Some d) xs p rest = rest

    placed : (xs : List X) (p : ℕ) → slice_get xs p ≡ Some x → slice_get (filter_map f xs) (length (filter_map f (take p xs))) ≡ Some c
    placed [] p there = absurd (none-some x there)
    placed (y ∷ xs) zero there = ap (λ o. slice_get (cons_option o (filter_map f xs)) 0) (ap f (same_Some y x there) ∙ gives)
    placed (y ∷ xs) (suc p) there = behind (f y) xs p (placed xs p there)

-- a filter leaves no more of a shorter front
pub filtered_few : {X C : Type 0} (f : X → Option C) (xs : List X) (q p : ℕ) → q ≤ p → length (filter_map f (take q xs)) ≤ length (filter_map f (take p xs))
filtered_few f xs zero p le = omega arith
filtered_few f xs (suc q) zero le = absurd (omega (arith, le))
filtered_few f [] (suc q) (suc p) le = omega arith
filtered_few {X} {C} f (x ∷ xs) (suc q) (suc p) le = go (f x) (filtered_few f xs q p (omega (arith, le)))
  where
    go : (o : Option C) → length (filter_map f (take q xs)) ≤ length (filter_map f (take p xs)) → length (cons_option o (filter_map f (take q xs))) ≤ length (cons_option o (filter_map f (take p xs)))
    go None rest = rest
    go (Some c) rest = omega (arith, rest)

-- ---- two filters, one after the other

-- what a second filter makes of what a first one gave
abbrev pub and_then : {Y Z : Type 0} → Option Y → (Y → Option Z) → Option Z
and_then None g = None
and_then (Some y) g = g y

filter_cons : {Y Z : Type 0} (g : Y → Option Z) (o : Option Y) (ys : List Y) → filter_map g (cons_option o ys) ≡ cons_option (and_then o g) (filter_map g ys)
filter_cons g None ys = refl
filter_cons g (Some y) ys = refl

-- two filters that agree with two others at each element leave the same
pub filtered_twice : {X Y W Z : Type 0} (f : X → Option Y) (g : Y → Option Z) (h : X → Option W) (l : W → Option Z) → ((x : X) → and_then (f x) g ≡ and_then (h x) l) → (xs : List X) → filter_map g (filter_map f xs) ≡ filter_map l (filter_map h xs)
filtered_twice f g h l same [] = refl
filtered_twice f g h l same (x ∷ xs) =
    filter_cons g (f x) (filter_map f xs)
    ∙ (ap (λ o. cons_option o (filter_map g (filter_map f xs))) (same x)
    ∙ (ap (λ zs. cons_option (and_then (h x) l) zs) (filtered_twice f g h l same xs)
    ∙ sym (filter_cons l (h x) (filter_map h xs))))
