-- Reading one after the other, as a loop does.
use Rattle.std.proofs.Common.{◌≡◌, ℕ, suc, ◌-◌, ◌+◌, ◌≤◌, ◌<◌, max, List, [], ◌∷◌, ◌++◌, length, get_or, take, Option, Some, Ok, Err, refl, sym, ap, ◌∙◌, append_assoc, append-nil, arith}
use Rattle.std.proofs.lemmas.List.{take_more_set, get_or-set_other}
use Rattle.ids_core.specs.declared.ids.OpId.{OpId}
use Rattle.ids_core.specs.declared.limits.TheConstants.{MOST_RECORDS}
use Rattle.std.specs.Int.{w64}
use Rattle.vv_core.specs.declared.stamp.Stamp.{Stamp}
use Rattle.vv_core.specs.Vectors.{raised}
use Rattle.vv_core.proofs.Entrywise.{raised_by_set}
use Rattle.tx_core.specs.declared.tx.Update.{Update}
use Rattle.wire_codec.specs.declared.fault.Stop.{Stop}
use Rattle.wire_codec.specs.declared.fault.Stop.TheVariants as stops
use Rattle.wire_codec.specs.Fields.{read, number}
use Rattle.wire_codec.specs.Reading.{◌>>=◌, Reading, Fails, with_front, update_at, updates_at, tag_at, tags_after_at, entries_at}

-- one more in front of what is still read
regroup : {A : Type 0} (front : List A) (x : A) (reading : Reading (List A)) → with_front front (reading >>= λ y. Ok (x ∷ y.0, y.1)) ≡ with_front (front ++ x ∷ []) reading
regroup front x (Ok y) = ap (λ xs. Ok (xs, y.1)) (simp append_assoc)
regroup front x (Err fault) = refl

-- what is read before a loop
pub nothing_in_front : {A : Type 0} (reading : Reading (List A)) → with_front [] reading ≡ reading
nothing_in_front (Ok y) = refl
nothing_in_front (Err fault) = refl

-- one was read, and the others are still to come
pub one_more : {A : Type 0} (front : List A) (x : A) (all others total : Reading (List A)) → all ≡ (others >>= λ y. Ok (x ∷ y.0, y.1)) → with_front front all ≡ total → with_front (front ++ x ∷ []) others ≡ total
one_more front x all others total e so_far = sym (regroup front x others) ∙ ap (with_front front) (sym e) ∙ so_far

-- none was read
pub none_more : {A : Type 0} (stop : Stop) (front : List A) (all total : Reading (List A)) → Fails stop all → with_front front all ≡ total → Fails stop total
none_more stops.Memory front all total h so_far = tt
none_more (stops.Fault fault) front all total h so_far = sym so_far ∙ ap (with_front front) h

-- all are read
pub all_read : {A : Type 0} (front : List A) (bytes : List ℕ) (all total : Reading (List A)) → all ≡ Ok ([], bytes) → with_front front all ≡ total → total ≡ Ok (front, bytes)
all_read front bytes all total e so_far = sym so_far ∙ ap (with_front front) e ∙ ap (λ xs. Ok (xs, bytes)) (append-nil front)

-- ---- updates

pub update_read : (count i : ℕ) (bytes behind : List ℕ) (update : Update) → i < count → update_at bytes ≡ Ok (update, behind) → updates_at (count - i) bytes ≡ (updates_at (count - (i + 1)) behind >>= λ y. Ok (update ∷ y.0, y.1))
unfolding updates_at
update_read count i bytes behind update lt h =
    let k : count - i ≡ suc (count - (i + 1)) = omega arith in
    rw (k, h) refl

pub update_fails : (stop : Stop) (count i : ℕ) (bytes : List ℕ) → i < count → Fails stop (update_at bytes) → Fails stop (updates_at (count - i) bytes)
unfolding updates_at
update_fails stops.Memory count i bytes lt h = tt
update_fails (stops.Fault fault) count i bytes lt h =
    let k : count - i ≡ suc (count - (i + 1)) = omega arith in
    rw (k, h) refl

pub no_update : (count i : ℕ) (bytes : List ℕ) → count ≤ i → updates_at (count - i) bytes ≡ Ok ([], bytes)
unfolding updates_at
no_update count i bytes le =
    let k : count - i ≡ 0 = omega arith in
    rw k refl

-- ---- tags

pub tag_read : (last : Option OpId) (count i : ℕ) (bytes behind : List ℕ) (id : OpId) → i < count → tag_at last bytes ≡ Ok (id, behind) → tags_after_at (count - i) last bytes ≡ (tags_after_at (count - (i + 1)) (Some id) behind >>= λ y. Ok (id ∷ y.0, y.1))
unfolding tags_after_at
tag_read last count i bytes behind id lt h =
    let k : count - i ≡ suc (count - (i + 1)) = omega arith in
    rw (k, h) refl

pub tag_fails : (stop : Stop) (last : Option OpId) (count i : ℕ) (bytes : List ℕ) → i < count → Fails stop (tag_at last bytes) → Fails stop (tags_after_at (count - i) last bytes)
unfolding tags_after_at
tag_fails stops.Memory last count i bytes lt h = tt
tag_fails (stops.Fault fault) last count i bytes lt h =
    let k : count - i ≡ suc (count - (i + 1)) = omega arith in
    rw (k, h) refl

pub no_tag : (last : Option OpId) (count i : ℕ) (bytes : List ℕ) → count ≤ i → tags_after_at (count - i) last bytes ≡ Ok ([], bytes)
unfolding tags_after_at
no_tag last count i bytes le =
    let k : count - i ≡ 0 = omega arith in
    rw k refl

-- ---- entries

pub entry_read : (count i : ℕ) (bytes behind : List ℕ) (entry : ℕ) → i < count → read (number w64 0 MOST_RECORDS) bytes ≡ Ok (entry, behind) → entries_at (count - i) bytes ≡ (entries_at (count - (i + 1)) behind >>= λ y. Ok (entry ∷ y.0, y.1))
unfolding entries_at
entry_read count i bytes behind entry lt h =
    let k : count - i ≡ suc (count - (i + 1)) = omega arith in
    rw (k, h) refl

pub entry_fails : (stop : Stop) (count i : ℕ) (bytes : List ℕ) → i < count → Fails stop (read (number w64 0 MOST_RECORDS) bytes) → Fails stop (entries_at (count - i) bytes)
unfolding entries_at
entry_fails stops.Memory count i bytes lt h = tt
entry_fails (stops.Fault fault) count i bytes lt h =
    let k : count - i ≡ suc (count - (i + 1)) = omega arith in
    rw (k, h) refl

pub no_entry : (count i : ℕ) (bytes : List ℕ) → count ≤ i → entries_at (count - i) bytes ≡ Ok ([], bytes)
unfolding entries_at
no_entry count i bytes le =
    let k : count - i ≡ 0 = omega arith in
    rw k refl

-- a vector whose entry there is 0, with the entry that was read
pub raised_front : (v : List ℕ) (s : Stamp) (i : ℕ) → i + 1 ≡ s.centre → i < length v → get_or v i 0 ≡ 0 → take (i + 1) (raised v s) ≡ take i v ++ s.seq ∷ []
raised_front v s i there lt empty =
    let entry : max (get_or v i 0) s.seq ≡ s.seq = omega (arith, empty) in
    ap (take (i + 1)) (sym (raised_by_set v s i there lt)) ∙ take_more_set v i (max (get_or v i 0) s.seq) lt ∙ ap (λ x. take i v ++ x ∷ []) entry

-- behind it nothing changed
pub raised_behind : (v : List ℕ) (s : Stamp) (i k : ℕ) → i + 1 ≡ s.centre → i < length v → i + 1 ≤ k → get_or v k 0 ≡ 0 → get_or (raised v s) k 0 ≡ 0
raised_behind v s i k there lt past empty = ap (λ w. get_or w k 0) (sym (raised_by_set v s i there lt)) ∙ get_or-set_other v i k (max (get_or v i 0) s.seq) 0 (omega arith) ∙ empty
