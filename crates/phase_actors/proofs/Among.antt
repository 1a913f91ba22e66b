-- The shows of taps, by those of the first centres, and lists whose elements belong together place by place.
use Rattle.std.proofs.Common.{◌≡◌, ◌≤◌, ◌<◌, ℕ, zero, suc, List, [], ◌∷◌, ◌++◌, map, length, length-append, append_assoc, Option, Some, None, refl, sym, ap, ◌∙◌, subst, arith}
use Rattle.std.specs.Prelude.{slice_get, slice_set, slice_index_or, unwrap_or}
use Rattle.std.specs.Option.{option_map}
use Rattle.std.specs.List.{AllZip}
use Rattle.std.proofs.lemmas.Option.{none-some, same_Some, slice_get_past, slice_get-map, unwrap_or-slice_get}
use Rattle.list_core.proofs.Gets.{get_in_front}
use Rattle.script_core.specs.declared.taps.Show.{Show}
use Rattle.script_core.specs.declared.taps.TapState.{TapState}
use Rattle.run_table.specs.Taps.{taps_of}
use Rattle.run_sections.specs.Taps.{shows_at}
use Rattle.read_tap.specs.Shows.{IsFront}
use Rattle.read_tap.proofs.Fronts.{front_same}
use Rattle.phase_actors.specs.Taps.{shows_among}

-- ---- fronts

-- a front of a front is a front
pub front_then : {X : Type 0} (xs ys zs : List X) → IsFront xs ys → IsFront ys zs → IsFront xs zs
front_then xs ys zs one two = record { rest = one.rest ++ two.rest; whole_is = two.whole_is ∙ (ap (λ l. l ++ two.rest) one.whole_is ∙ append_assoc xs one.rest two.rest) }

-- what stands in a front stands in the whole
pub front_get : {X : Type 0} (xs ys : List X) (place : ℕ) (x : X) → IsFront xs ys → slice_get xs place ≡ Some x → slice_get ys place ≡ Some x
front_get xs ys place x is there = subst (λ l. slice_get l place ≡ Some x) (sym is.whole_is) (get_in_front xs is.rest place x there)

-- a front is no longer
pub front_long : {X : Type 0} (xs ys : List X) → IsFront xs ys → length xs ≤ length ys
front_long xs ys is = omega (arith, ap length is.whole_is, length-append xs is.rest)

-- ---- place by place

-- what belongs to the element at a place
pub zip_at : {X Y : Type 0} (R : X → Y → Type 0) (xs : List X) (ys : List Y) (place : ℕ) (y : Y) → AllZip R xs ys → slice_get ys place ≡ Some y → (x : X) × (slice_get xs place ≡ Some x) × R x y
zip_at R [] [] place y zip there = absurd (none-some y there)
zip_at R [] (b ∷ ys) place y zip there = absurd zip
zip_at R (a ∷ xs) [] place y zip there = absurd zip
zip_at R (a ∷ xs) (b ∷ ys) zero y zip there = (a, refl, subst (R a) (same_Some b y there) zip.0)
zip_at R (a ∷ xs) (b ∷ ys) (suc place) y zip there = zip_at R xs ys place y zip.1 there

-- elements that belong to themselves
pub zip_same : {X : Type 0} (R : X → X → Type 0) → ((x : X) → R x x) → (xs : List X) → AllZip R xs xs
zip_same R same [] = tt
zip_same R same (x ∷ xs) = (same x, zip_same R same xs)

-- one after another
pub zip_then : {X Y Z : Type 0} (R : X → Y → Type 0) (S : Y → Z → Type 0) (T : X → Z → Type 0) → ((x : X) (y : Y) (z : Z) → R x y → S y z → T x z) → (xs : List X) (ys : List Y) (zs : List Z) → AllZip R xs ys → AllZip S ys zs → AllZip T xs zs
zip_then R S T join [] [] [] one two = tt
zip_then R S T join [] [] (z ∷ zs) one two = absurd two
zip_then R S T join [] (y ∷ ys) zs one two = absurd one
zip_then R S T join (x ∷ xs) [] zs one two = absurd one
zip_then R S T join (x ∷ xs) (y ∷ ys) [] one two = absurd two
zip_then R S T join (x ∷ xs) (y ∷ ys) (z ∷ zs) one two = (join x y z one.0 two.0, zip_then R S T join xs ys zs one.1 two.1)

-- one of them is put in place of another, and the others stay
pub zip_set_at : {X : Type 0} (R : X → X → Type 0) → ((x : X) → R x x) → (xs : List X) (place : ℕ) (x later : X) → slice_get xs place ≡ Some x → R x later → AllZip R xs (slice_set xs place later)
zip_set_at R same [] place x later there is = absurd (none-some x there)
zip_set_at R same (y ∷ xs) zero x later there is = (subst (λ y. R y later) (sym (same_Some y x there)) is, zip_same R same xs)
zip_set_at R same (y ∷ xs) (suc place) x later there is = (same y, zip_set_at R same xs place x later there is)

-- ---- shows by centres

module _ {X : Type 0} (taps : List TapState) (f : X → List Show) (xs : List X) (place : ℕ) where
  -- the shows of a centre are those of what stands at its place, or of its tap
  pub among_is : shows_among taps (map f xs) (suc place) ≡ unwrap_or (option_map f (slice_get xs place)) (shows_at (taps_of taps) (suc place))
  among_is = sym (unwrap_or-slice_get (map f xs) place (shows_at (taps_of taps) (suc place))) ∙ ap (λ found. unwrap_or found (shows_at (taps_of taps) (suc place))) (slice_get-map f xs place)

  -- where something stands there
  pub among_there : (x : X) → slice_get xs place ≡ Some x → shows_among taps (map f xs) (suc place) ≡ f x
  among_there x there = among_is ∙ ap (λ found. unwrap_or (option_map f found) (shows_at (taps_of taps) (suc place))) there

  -- where nothing does
  pub among_past : length xs ≤ place → shows_among taps (map f xs) (suc place) ≡ shows_at (taps_of taps) (suc place)
  among_past past = among_is ∙ ap (λ found. unwrap_or (option_map f found) (shows_at (taps_of taps) (suc place))) (slice_get_past xs place past)

  -- where the same stands there as in another list
  pub among_same : (ys : List X) → slice_get ys place ≡ slice_get xs place → shows_among taps (map f ys) (suc place) ≡ shows_among taps (map f xs) (suc place)
  among_same ys same =
      (sym (unwrap_or-slice_get (map f ys) place (shows_at (taps_of taps) (suc place))) ∙ ap (λ found. unwrap_or found (shows_at (taps_of taps) (suc place))) (slice_get-map f ys place))
      ∙ (ap (λ found. unwrap_or (option_map f found) (shows_at (taps_of taps) (suc place))) same ∙ sym among_is)

-- where the shows at each place are a front of others, so they are of each centre
pub among_grows : {X Y : Type 0} (f : X → List Show) (h : Y → List Show) (taps : List TapState) (xs : List X) (ys : List Y) → AllZip (λ (x : X) (y : Y). IsFront (f x) (h y)) xs ys → (centre : ℕ) → IsFront (shows_among taps (map f xs) centre) (shows_among taps (map h ys) centre)
among_grows {X} {Y} f h taps xs ys zip zero = front_same (shows_at (taps_of taps) zero)
among_grows {X} {Y} f h taps xs ys zip (suc place) = go xs ys zip place
  where
    own : List Show
    own = shows_at (taps_of taps) (suc place)

    go : (xs : List X) (ys : List Y) → AllZip (λ (x : X) (y : Y). IsFront (f x) (h y)) xs ys → (place : ℕ) → IsFront (slice_index_or (map f xs) place own) (slice_index_or (map h ys) place own)
    go [] [] zip place = front_same own
    go [] (y ∷ ys) zip place = absurd zip
    go (x ∷ xs) [] zip place = absurd zip
    go (x ∷ xs) (y ∷ ys) zip zero = zip.0
    go (x ∷ xs) (y ∷ ys) zip (suc place) = go xs ys zip.1 place
