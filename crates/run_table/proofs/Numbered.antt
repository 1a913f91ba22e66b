-- Lists by number, counted from 1: one more, and one replaced.
use Rattle.std.proofs.Common.{◌≡◌, ◌≤◌, ◌<◌, ℕ, ◌+◌, ◌-◌, List, [], ◌∷◌, ◌++◌, map, Some, refl, sym, ap, ◌∙◌, arith}
use Rattle.std.specs.Prelude.{slice_get}
use Rattle.std.specs.List.{range_with_len}
use Rattle.std.proofs.lemmas.Option.{slice_get-get_or}
use Rattle.std.proofs.lemmas.List.FromFn.{map-range_with_len_more, get_or-map-range_with_len, length-map-range_with_len}

-- what a function gives from 1 on, with one more
pub more_below : {X : Type 0} (f : ℕ → X) (next : ℕ) (xs : List X) (x : X) → 1 ≤ next → xs ≡ map f (range_with_len 1 (next - 1)) → x ≡ f next → xs ++ x ∷ [] ≡ map f (range_with_len 1 (next + 1 - 1))
more_below f next xs x low are is =
    let here : 1 + (next - 1) ≡ next = omega arith in
    let there : next + 1 - 1 ≡ next - 1 + 1 = omega arith in
    ap (λ xs. xs ++ x ∷ []) are
    ∙ (ap (λ x. map f (range_with_len 1 (next - 1)) ++ x ∷ []) is
    ∙ (sym (map-range_with_len_more f 1 (next - 1) next here)
    ∙ ap (λ count. map f (range_with_len 1 count)) (sym there)))

-- the element at a place of what a function gives from 1 on
pub get_below : {X : Type 0} (f : ℕ → X) (count place : ℕ) → place < count → slice_get (map f (range_with_len 1 count)) place ≡ Some (f (1 + place))
get_below f count place lt =
    slice_get-get_or (map f (range_with_len 1 count)) place (f 0) (omega (arith, length-map-range_with_len f 1 count))
    ∙ ap Some (get_or-map-range_with_len f 1 count place (1 + place) (f 0) lt refl)
