-- All stamps of a dot.
use Rattle.std.proofs.Common.{◌≡◌, ℕ, Bool, true, false, cond, ◌⊎◌, inl, inr, List, [], ◌∷◌, ◌++◌, map, refl, ap, ◌∙◌}
use Rattle.std.specs.Prelude.{filter}
use Rattle.std.proofs.lemmas.Bool.{cases_Bool, or_parts}
use Rattle.std.proofs.lemmas.List.{map-append}
use Rattle.std.proofs.lemmas.List.Elements.{filter-append}
use Rattle.ids_core.specs.declared.ids.Dot.{Dot}
use Rattle.ids_core.specs.Ids.{same_dot}
use Rattle.ids_core.proofs.Dots.{same_dot-turned}
use Rattle.vv_core.specs.Vectors.{within}
use Rattle.vv_core.specs.Stamps.{is_any_within}
use Rattle.tx_core.specs.declared.tx.Record.{Record}
use Rattle.dc_talk.specs.Records.{has, inside}
use Rattle.dc_talk.specs.Dots.{dots_of, stamps_of}

-- with one record more
pub stamps_more : (d : Dot) (A : List Record) (r : Record) (t : Bool) → same_dot d r.tx.dot ≡ t → stamps_of d (A ++ r ∷ []) ≡ stamps_of d A ++ cond t (r.stamp ∷ []) []
stamps_more d A r t is =
    ap (map (λ (r : Record). r.stamp)) (filter-append (λ (r : Record). same_dot r.tx.dot d) A (r ∷ []) ∙ ap (λ b. filter (λ (r : Record). same_dot r.tx.dot d) A ++ cond b (r ∷ []) []) (same_dot-turned d r.tx.dot t is))
    ∙ (map-append (λ (r : Record). r.stamp) (filter (λ (r : Record). same_dot r.tx.dot d) A) (cond t (r ∷ []) []) ∙ ap (λ l. stamps_of d A ++ l) (at t))
  where
    at : (t : Bool) → map (λ (r : Record). r.stamp) (cond t (r ∷ []) []) ≡ cond t (r.stamp ∷ []) []
    at true = refl
    at false = refl

-- a dot that no record has, has none
pub stamps_none : (d : Dot) (A : List Record) → has d (dots_of A) ≡ false → stamps_of d A ≡ []
stamps_none d [] new = refl
stamps_none d (r ∷ A) new =
    let parts = or_parts (same_dot d r.tx.dot) (has d (dots_of A)) new in
    ap (λ b. map (λ (r : Record). r.stamp) (cond b (r ∷ filter (λ (r : Record). same_dot r.tx.dot d) A) (filter (λ (r : Record). same_dot r.tx.dot d) A))) (same_dot-turned d r.tx.dot false parts.0) ∙ stamps_none d A parts.1

-- the dot is inside a vector where one of its stamps is within it
pub any_inside : (w : List ℕ) (d : Dot) (A : List Record) → is_any_within w (stamps_of d A) ≡ has d (inside A w)
any_inside w d [] = refl
any_inside w d (r ∷ A) = go (any_inside w d A) (cases_Bool (same_dot r.tx.dot d)) (cases_Bool (within r.stamp w))
  where
    go : is_any_within w (stamps_of d A) ≡ has d (inside A w) → (same_dot r.tx.dot d ≡ true) ⊎ (same_dot r.tx.dot d ≡ false) → (within r.stamp w ≡ true) ⊎ (within r.stamp w ≡ false) → is_any_within w (stamps_of d (r ∷ A)) ≡ has d (inside (r ∷ A) w)
    go rest (inl t) (inl i) = rw (t, i, same_dot-turned r.tx.dot d true t) refl
    go rest (inl t) (inr o) = rw (t, o) rest
    go rest (inr f) (inl i) = rw (f, i, same_dot-turned r.tx.dot d false f) rest
    go rest (inr f) (inr o) = rw (f, o) rest
