-- Elements that change places, and what stays so.
use Rattle.std.proofs.Common.{◌≡◌, ℕ, zero, suc, ◌<◌, List, [], ◌∷◌, ◌++◌, length, get_or, set, length-set, refl, sym, ap, ◌∙◌, subst, arith, append_assoc}
use Rattle.std.specs.Prelude.{All}
use Rattle.std.specs.List.{AllZip}
use Rattle.std.proofs.lemmas.List.{same_lists}
use Rattle.std.proofs.lemmas.List.Edits.{Swapped, swapped_from_swap}
use Rattle.std.proofs.lemmas.List.Elements.{All-nil, All-cons, All-head, All-tail, All-set, All-get_or, All-append, AllZip-get_or}
use mathlib.Core.Logic.{dite}
use native.Mathlib.Decide.{ℕ_discrete}
use Rattle.phase_play.specs.declared.gathering.Swap.{Swap}
use Rattle.phase_play.specs.Swaps.{swapped, swapped_by, swapped_back, IsWithin, Swaps}

-- there are as many
pub as_many : {X : Type 0} (xs : List X) (s : Swap) → length (swapped xs s) ≡ length xs
as_many [] s = refl
as_many (d ∷ xs) s = length-set (set (d ∷ xs) s.here (get_or (d ∷ xs) s.there d)) s.there (get_or (d ∷ xs) s.here d) ∙ length-set (d ∷ xs) s.here (get_or (d ∷ xs) s.there d)

-- ---- one swap

-- what all elements are they are at their new places
pub all_swapped : {X : Type 0} (P : X → Type 0) (xs : List X) (s : Swap) → IsWithin (length xs) s → All P xs → All P (swapped xs s)
all_swapped P [] s within all = all
all_swapped P (d ∷ xs) s within all =
    let all_here = All-set P (d ∷ xs) s.here (get_or (d ∷ xs) s.there d) (All-get_or P (d ∷ xs) s.there d within.1 all) all in
    All-set P (set (d ∷ xs) s.here (get_or (d ∷ xs) s.there d)) s.there (get_or (d ∷ xs) s.here d) (All-get_or P (d ∷ xs) s.here d within.0 all) all_here

-- elements that belong together at one place
zip_set : {X : Type 0} (R : X → X → Type 0) (xs ys : List X) (i : ℕ) (x y : X) → R x y → AllZip R xs ys → AllZip R (set xs i x) (set ys i y)
zip_set R [] [] i x y r zip = zip
zip_set R [] (b ∷ ys) i x y r zip = absurd zip
zip_set R (a ∷ xs) [] i x y r zip = absurd zip
zip_set R (a ∷ xs) (b ∷ ys) zero x y r zip = (r, zip.1)
zip_set R (a ∷ xs) (b ∷ ys) (suc i) x y r zip = (zip.0, zip_set R xs ys i x y r zip.1)

-- lists that belong together do so after the same swap
pub zip_swapped : {X : Type 0} (R : X → X → Type 0) (xs ys : List X) (s : Swap) → IsWithin (length xs) s → AllZip R xs ys → AllZip R (swapped xs s) (swapped ys s)
zip_swapped R [] [] s within zip = zip
zip_swapped R [] (b ∷ ys) s within zip = absurd zip
zip_swapped R (a ∷ xs) [] s within zip = absurd zip
zip_swapped R (a ∷ xs) (b ∷ ys) s within zip =
    let here = AllZip-get_or R (a ∷ xs) (b ∷ ys) s.here a b zip within.0 in
    let there = AllZip-get_or R (a ∷ xs) (b ∷ ys) s.there a b zip within.1 in
    zip_set R (set (a ∷ xs) s.here (get_or (a ∷ xs) s.there a)) (set (b ∷ ys) s.here (get_or (b ∷ ys) s.there b)) s.there (get_or (a ∷ xs) s.here a) (get_or (b ∷ ys) s.here b) here
    (zip_set R (a ∷ xs) (b ∷ ys) s.here (get_or (a ∷ xs) s.there a) (get_or (b ∷ ys) s.there b) there zip)

-- the same swap again undoes it
pub swapped_again : {X : Type 0} (xs : List X) (s : Swap) → IsWithin (length xs) s → swapped (swapped xs s) s ≡ xs
swapped_again {X} xs s within = same_lists (swapped once s) xs (as_many once s ∙ as_many xs s) at
  where
    once : List X
    once = swapped xs s

    at : (k : ℕ) (d : X) → k < length (swapped once s) → get_or (swapped once s) k d ≡ get_or xs k d
    at k d inside =
        let first : Swapped (λ i. get_or xs i d) (λ i. get_or once i d) s.here s.there = swapped_from_swap xs once s.here s.there d within.0 within.1 refl in
        let second : Swapped (λ i. get_or once i d) (λ i. get_or (swapped once s) i d) s.here s.there = swapped_from_swap once (swapped once s) s.here s.there d (omega (arith, as_many xs s, within.0)) (omega (arith, as_many xs s, within.1)) refl in
        dite (ℕ_discrete k s.here)
        (λ is. ap (λ i. get_or (swapped once s) i d) is ∙ (second.0 ∙ (first.1 ∙ ap (λ i. get_or xs i d) (sym is))))
        (λ apart. dite (ℕ_discrete k s.there)
        (λ is. ap (λ i. get_or (swapped once s) i d) is ∙ (second.1 ∙ (first.0 ∙ ap (λ i. get_or xs i d) (sym is))))
        (λ far. second.2 k apart far ∙ first.2 k apart far))

-- ---- several

-- the places of swaps lie within a list as long
within_as : (n m : ℕ) (swaps : List Swap) → n ≡ m → All (IsWithin n) swaps → All (IsWithin m) swaps
within_as n m swaps same all = subst (λ k. All (IsWithin k) swaps) same all

-- what all elements are they are after swaps
pub all_by : {X : Type 0} (P : X → Type 0) (xs : List X) (swaps : List Swap) → All (IsWithin (length xs)) swaps → All P xs → All P (swapped_by xs swaps)
all_by P xs [] within all = all
all_by P xs (s ∷ swaps) within all =
    let rest = within_as (length xs) (length (swapped xs s)) swaps (sym (as_many xs s)) (All-tail (IsWithin (length xs)) s swaps within) in
    all_by P (swapped xs s) swaps rest (all_swapped P xs s (All-head (IsWithin (length xs)) s swaps within) all)

-- what belongs to elements that changed places belongs to them where both are put back
pub zip_back : {X : Type 0} (R : X → X → Type 0) (xs ys : List X) (swaps : List Swap) → All (IsWithin (length xs)) swaps → AllZip R (swapped_by xs swaps) ys → AllZip R xs (swapped_back ys swaps)
zip_back R xs ys [] within zip = zip
zip_back R xs ys (s ∷ swaps) within zip =
    let inside = All-head (IsWithin (length xs)) s swaps within in
    let long = as_many xs s in
    let rest = within_as (length xs) (length (swapped xs s)) swaps (sym long) (All-tail (IsWithin (length xs)) s swaps within) in
    let before : AllZip R (swapped xs s) (swapped_back ys swaps) = zip_back R (swapped xs s) ys swaps rest zip in
    subst (λ xs. AllZip R xs (swapped (swapped_back ys swaps) s)) (swapped_again xs s inside) (zip_swapped R (swapped xs s) (swapped_back ys swaps) s (subst (λ n. IsWithin n s) (sym long) inside) before)

-- the last of several swaps is undone first
pub back_last : {X : Type 0} (xs : List X) (swaps : List Swap) (s : Swap) → swapped_back xs (swaps ++ s ∷ []) ≡ swapped_back (swapped xs s) swaps
back_last xs [] s = refl
back_last xs (first ∷ swaps) s = ap (λ xs. swapped xs first) (back_last xs swaps s)

-- what holds of all of a list holds of all of its front
pub all_front : {X : Type 0} (P : X → Type 0) (xs ys : List X) → All P (xs ++ ys) → All P xs
all_front P [] ys all = All-nil P
all_front P (x ∷ xs) ys all = All-cons P x xs (All-head P x (xs ++ ys) all) (all_front P xs ys (All-tail P x (xs ++ ys) all))

-- ---- swaps that are noted

-- some, and then others
pub both : {X : Type 0} (xs ys zs : List X) (swaps then last : List Swap) → Swaps xs ys swaps then → Swaps ys zs then last → Swaps xs zs swaps last
both xs ys zs swaps then last first second =
    record {
      more = first.more ++ second.more;
      noted = second.noted ∙ (ap (λ (ss : List Swap). ss ++ second.more) first.noted ∙ append_assoc swaps first.more second.more);
      made = second.made ∙ (ap (λ xs. swapped_by xs second.more) first.made ∙ by_both xs first.more second.more);
      within = All-append (IsWithin (length xs)) first.more second.more first.within (within_as (length ys) (length xs) second.more first.long second.within);
      long = second.long ∙ first.long;
    }
  where
    by_both : {X : Type 0} (xs : List X) (ss more : List Swap) → swapped_by (swapped_by xs ss) more ≡ swapped_by xs (ss ++ more)
    by_both xs [] more = refl
    by_both xs (s ∷ ss) more = by_both (swapped xs s) ss more
