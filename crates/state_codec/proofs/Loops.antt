-- Reading one after the other, as a loop does.
use Rattle.std.proofs.Common.{◌≡◌, ℕ, suc, ◌-◌, ◌+◌, ◌≤◌, ◌<◌, List, [], ◌∷◌, ◌++◌, Some, None, refl, sym, ap, ◌∙◌, append_assoc, append-nil, arith}
use Rattle.state_codec.specs.declared.stop.Stop.{Stop}
use Rattle.state_codec.specs.declared.stop.Stop.TheVariants as stops
use Rattle.state_codec.specs.Reading.{◌>>=◌, Reading, Fails, with_front, times_at}

-- one more in front of what is still read
regroup : {A : Type 0} (front : List A) (x : A) (reading : Reading (List A)) → with_front front (reading >>= λ y. Some (x ∷ y.0, y.1)) ≡ with_front (front ++ x ∷ []) reading
regroup front x (Some y) = ap (λ xs. Some (xs, y.1)) (simp append_assoc)
regroup front x None = refl

-- what is read before a loop
pub nothing_in_front : {A : Type 0} (reading : Reading (List A)) → with_front [] reading ≡ reading
nothing_in_front (Some y) = refl
nothing_in_front None = refl

-- one was read, and the others are still to come
pub one_more : {A : Type 0} (way : List ℕ → Reading A) (front : List A) (x : A) (count i : ℕ) (bytes behind : List ℕ) (total : Reading (List A))
    → i < count → way bytes ≡ Some (x, behind) → with_front front (times_at way (count - i) bytes) ≡ total → with_front (front ++ x ∷ []) (times_at way (count - (i + 1)) behind) ≡ total
unfolding times_at
one_more way front x count i bytes behind total lt h so_far =
    let k : count - i ≡ suc (count - (i + 1)) = omega arith in
    let step : times_at way (count - i) bytes ≡ (times_at way (count - (i + 1)) behind >>= λ y. Some (x ∷ y.0, y.1)) = rw (k, h) refl in
    sym (regroup front x (times_at way (count - (i + 1)) behind)) ∙ ap (with_front front) (sym step) ∙ so_far

-- none was read
pub none_more : {A : Type 0} (stop : Stop) (way : List ℕ → Reading A) (front : List A) (count i : ℕ) (bytes : List ℕ) (total : Reading (List A))
    → i < count → Fails stop (way bytes) → with_front front (times_at way (count - i) bytes) ≡ total → Fails stop total
unfolding times_at
none_more stops.Memory way front count i bytes total lt h so_far = tt
none_more stops.Other way front count i bytes total lt h so_far =
    let k : count - i ≡ suc (count - (i + 1)) = omega arith in
    let step : times_at way (count - i) bytes ≡ None = rw (k, h) refl in
    sym so_far ∙ ap (with_front front) step

-- all are read
pub all_read : {A : Type 0} (way : List ℕ → Reading A) (front : List A) (count i : ℕ) (bytes : List ℕ) (total : Reading (List A))
    → count ≤ i → with_front front (times_at way (count - i) bytes) ≡ total → total ≡ Some (front, bytes)
unfolding times_at
all_read way front count i bytes total le so_far =
    let k : count - i ≡ 0 = omega arith in
    let step : times_at way (count - i) bytes ≡ Some ([], bytes) = rw k refl in
    sym so_far ∙ ap (with_front front) step ∙ ap (λ xs. Some (xs, bytes)) (append-nil front)
