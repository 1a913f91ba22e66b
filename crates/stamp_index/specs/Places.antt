-- The places of stamps, in their order: by centre, then number, then transaction.
use Rattle.std.specs.Prelude.{◌≡◌, ◌<◌, ◌^◌, ℕ, Bool, true, ◌&&◌, ◌==◌, nat_le, cond, filter, List}
use Rattle.std.specs.List.{list_any}
use Rattle.std.specs.Ordering.{nat_cmp, on, then_cmp}
use Rattle.std.specs.declared.cmp.Ordering.{Ordering}
use Rattle.std.specs.BTreeMap.{is_at}
use Rattle.vv_core.specs.declared.stamp.Stamp.{Stamp}
use Rattle.vv_core.specs.Vectors.{at}
use Rattle.stamp_index.specs.declared.places.Place.{Place}

-- by centre, then number, then transaction
abbrev pub place_cmp : Place → Place → Ordering
place_cmp = then_cmp (on (λ p. p.centre) nat_cmp) (then_cmp (on (λ p. p.seq) nat_cmp) (on (λ p. p.number) nat_cmp))

-- the place of a stamp of the transaction of a number: where the stamp's own number is 0, it is at centre 0
abbrev pub place_of : ℕ → Stamp → Place
place_of number s = record { centre = cond (s.seq == 0) 0 s.centre; seq = s.seq; number = number }

-- whether the place is there
abbrev pub has_place : List Place → Place → Bool
has_place places p = list_any (is_at (place_cmp p)) places

-- whether the place is of the centre, up to the number
abbrev pub is_reached : ℕ → ℕ → Place → Bool
is_reached centre seq p = (p.centre == centre) && nat_le p.seq seq

-- the places of the centre that are within the vector
abbrev pub reached_of : List ℕ → ℕ → List Place → List Place
reached_of w centre places = filter (is_reached centre (at w centre)) places

-- whether one of the places is of the transaction of the number
abbrev pub is_numbered : List Place → ℕ → Bool
is_numbered places number = list_any (λ p. p.number == number) places

-- the transactions of the places have numbers of a program
abbrev pub HasFitNumbers : List Place → Type 0
HasFitNumbers places = (p : Place) → has_place places p ≡ true → p.number < 2 ^ 64
