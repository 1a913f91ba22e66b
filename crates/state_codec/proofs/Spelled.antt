-- The bytes of a state, field by field, and what reading them tells.
use Rattle.std.proofs.Common.{◌≡◌, ℕ, ℤ, pos, ◌+◌, ◌-◌, ◌*◌, ◌/◌, ◌%◌, ◌^◌, ◌<◌, ◌≤◌, Bool, true, false, cond, eqb, int_lt, List, [], ◌∷◌, ◌++◌, length, Option, Some, None, refl, sym, ap, ◌∙◌, append_assoc, arith}
use Rattle.std.specs.Int.{w8, w16, w32, w64, w128, cast_signed, cast_unsigned}
use Rattle.std.specs.Int.RustNames.{FitsSigned}
use Rattle.std.proofs.lemmas.Bool.{not-true, eqb-true, eqb-false}
use Rattle.std.proofs.lemmas.Int.{of_z-to_z, to_z-of_z}
use Rattle.std.proofs.Math.Facts.{Fits-of_z, Fits-lt-pow}
use borrow.Author.Gap.{read_sfits}
use Rattle.ids_core.specs.declared.ids.OpId.{OpId}
use Rattle.ids_core.specs.declared.ids.Mark.{Mark}
use Rattle.ids_core.specs.declared.limits.TheConstants.{MOST_CLIENTS, MOST_UPDATES, MOST_NUMBER}
use Rattle.ids_core.specs.Name.{IsName}
use Rattle.obj_register.specs.declared.register.RegisterOp.{RegisterOp}
use Rattle.obj_map.specs.declared.put.Put.{Put}
use Rattle.tally_core.specs.declared.place.Place.{Place}
use Rattle.tally_core.specs.declared.place.Cell.{Cell}
use Rattle.tally_core.specs.Places.{place}
use Rattle.tally_core.specs.Listing.{ascend}
use Rattle.tx_core.specs.Checks.{is_within, IsTag}
use Rattle.wire_codec.specs.Fields.{number, bytes_where}
use Rattle.wire_codec.specs.Grammar.{name, are_name_bytes, op_id}
use Rattle.wire_codec.specs.Spelling.{u16_bytes, u32_bytes, u64_bytes, name_bytes, tag_bytes, delta_bytes}
use Rattle.wire_codec.proofs.FieldsSpelled.{within_is, is_within_from, in_1, in_2, in_4, in_8, name_spells}
use Rattle.state_codec.specs.declared.state.PlainState.{PlainState}
use Rattle.state_codec.specs.declared.state.PlainPart.{PlainPart}
use Rattle.state_codec.specs.declared.state.PlainState.TheVariants.{Counter, Register, Set, Map}
use Rattle.state_codec.specs.Spelling.{sum_bytes, last_bytes, place_bytes, member_bytes, kept_bytes, entry_bytes, list_bytes, spelled, IsRank, IsSpelledLast, IsSpelledPlace, IsTally, IsSpelledMember, IsSpelledKept, IsSpelledEntry, AreTallies, IsSpelled, part_bytes, IsSpelledPart}
use Rattle.state_codec.specs.Reading.{◌>>=◌, Reading, front, any_number, name_at, id_at, sum_at, write_at, last_at, is_tally, tally_at, place_at, member_at, put_at, kept_at, entry_at, list_at, body_at, plain_at, named_at}
use Rattle.state_codec.proofs.Ways.{Tells, of_fields, front_joined, same_way, fit, told, seq, made, tested, chosen, times_tell}

-- ---- numbers, names and identifiers

pub any_tells : Tells (front any_number) (λ n. n < 2 ^ 64) u64_bytes
any_tells = fit (of_fields (in_8 (is_within 0 18446744073709551615)))
    (λ n h. h.0)
    (λ n h. (h, is_within_from 0 18446744073709551615 n (omega arith) (omega (arith, h))))
    (λ n h. refl)

rank_tells : Tells (front (number w64 1 MOST_NUMBER)) IsRank u64_bytes
rank_tells = fit (of_fields (in_8 (is_within 1 MOST_NUMBER)))
    (λ n h. within_is 1 MOST_NUMBER n h.1)
    (λ n h. (omega (arith, h.0, h.1), is_within_from 1 MOST_NUMBER n h.0 h.1))
    (λ n h. refl)

client_tells : Tells (front (number w32 1 MOST_CLIENTS)) (λ n. (1 ≤ n) × (n ≤ MOST_CLIENTS)) u32_bytes
client_tells = fit (of_fields (in_4 (is_within 1 MOST_CLIENTS)))
    (λ n h. within_is 1 MOST_CLIENTS n h.1)
    (λ n h. (omega (arith, h.0, h.1), is_within_from 1 MOST_CLIENTS n h.0 h.1))
    (λ n h. refl)

spot_tells : Tells (front (number w16 0 (MOST_UPDATES - 1))) (λ n. n ≤ MOST_UPDATES - 1) u16_bytes
spot_tells = fit (of_fields (in_2 (is_within 0 (MOST_UPDATES - 1))))
    (λ n h. (within_is 0 (MOST_UPDATES - 1) n h.1).1)
    (λ n h. (omega (arith, h), is_within_from 0 (MOST_UPDATES - 1) n (omega arith) h))
    (λ n h. refl)

name_tells : Tells name_at IsName name_bytes
unfolding name name_at
name_tells = same_way (of_fields name_spells) (λ bytes. front_joined (number w8 1 32) (λ len. bytes_where len are_name_bytes) bytes)

id_tells : Tells id_at IsTag tag_bytes
unfolding id_at
id_tells =
    fit (seq (λ (id : OpId). id.dot.client) client_tells (λ client c.
    seq (λ (id : OpId). id.dot.number) rank_tells (λ count n.
    made (λ place. op_id client count place) (λ id. (id.dot.client ≡ client) × ((id.dot.number ≡ count) × (id.place ≤ MOST_UPDATES - 1))) (λ id. u16_bytes id.place) spot_tells
    (λ place is. ((refl, (refl, is)), refl))
    (λ id h. (id.place, (h.1.1, (λ i. op_id (sym h.0 i) (sym h.1.0 i) id.place)))))
    (λ count id is h. h.1.0))
    (λ client id is h. h.1.0))
    (λ id h. record { client = h.0; number = h.1.0; place = h.1.1.1.1 })
    (λ id h. (h.client, (h.number, (refl, (refl, h.place)))))
    (λ id h. sym (append_assoc (u32_bytes id.dot.client) (u64_bytes id.dot.number) (u16_bytes id.place)))

-- ---- counters

-- the bits of a sum in two halves
high_of : ℤ → ℕ
high_of sum = cast_unsigned w128 sum / 2 ^ 64

sum_tells : Tells sum_at (FitsSigned w128) sum_bytes
unfolding sum_at high_of
sum_tells =
    fit (seq high_of any_tells (λ high small.
    made (λ low. cast_signed w128 (high * 2 ^ 64 + low)) (λ sum. (high_of sum ≡ high) × FitsSigned w128 sum) (λ sum. u64_bytes (cast_unsigned w128 sum % 2 ^ 64)) any_tells
    (λ low is.
    let n = high * 2 ^ 64 + low in
    let small : n < 2 ^ 128 = omega (arith, small, is) in
    let back : cast_unsigned w128 (cast_signed w128 n) ≡ n = of_z-to_z w128 n small in
    let halves : n / 2 ^ 64 ≡ high = omega (arith, is) in
    let rest : n % 2 ^ 64 ≡ low = omega (arith, is) in
    ((ap (λ m. m / 2 ^ 64) back ∙ halves, read_sfits w128 n), ap u64_bytes (sym rest ∙ ap (λ m. m % 2 ^ 64) (sym back))))
    (λ sum h.
    let n = cast_unsigned w128 sum in
    let whole : high * 2 ^ 64 + n % 2 ^ 64 ≡ n = ap (λ m. m * 2 ^ 64 + n % 2 ^ 64) (sym h.0) ∙ omega arith in
    (n % 2 ^ 64, (omega arith, ap (cast_signed w128) whole ∙ to_z-of_z w128 sum h.1))))
    (λ high sum is h. h.0))
    (λ sum h. h.1.1)
    (λ sum h.
    let n = cast_unsigned w128 sum in
    let small : n < 2 ^ 128 = Fits-lt-pow {w = w128} (Fits-of_z {w = w128} h) in
    (omega (arith, small), (refl, h)))
    (λ sum h. refl)

-- ---- registers

write_tells : Tells write_at (λ (w : Mark × RegisterOp). IsRank w.0.rank × (IsTag w.0.id × IsName w.1.word)) (λ w. u64_bytes w.0.rank ++ (tag_bytes w.0.id ++ name_bytes w.1.word))
unfolding write_at
write_tells =
    fit (seq (λ (w : Mark × RegisterOp). w.0.rank) rank_tells (λ rank r.
    seq (λ (w : Mark × RegisterOp). w.0.id) id_tells (λ id i.
    made (λ word. (record { rank = rank; id = id }, record { word = word })) (λ (w : Mark × RegisterOp). (w.0.rank ≡ rank) × ((w.0.id ≡ id) × IsName w.1.word)) (λ w. name_bytes w.1.word) name_tells
    (λ word is. ((refl, (refl, is)), refl))
    (λ w h. (w.1.word, (h.1.1, (λ i. (record { rank = sym h.0 i; id = sym h.1.0 i }, record { word = w.1.word }))))))
    (λ id w is h. h.1.0))
    (λ rank w is h. h.1.0))
    (λ w h. (h.0, (h.1.0, h.1.1.1.1)))
    (λ w h. (h.0, (h.1.0, (refl, (refl, h.1.1)))))
    (λ w h. refl)

-- whether there is a write, and what follows
flag_of : Option (Mark × RegisterOp) → ℕ
flag_of None = 0
flag_of (Some w) = 1

behind_flag : Option (Mark × RegisterOp) → List ℕ
behind_flag None = []
behind_flag (Some w) = u64_bytes w.0.rank ++ (tag_bytes w.0.id ++ name_bytes w.1.word)

last_tells : Tells last_at IsSpelledLast last_bytes
unfolding last_at flag_of behind_flag
last_tells =
    fit (seq flag_of (fit (of_fields (in_1 (is_within 0 1))) (λ n h. (within_is 0 1 n h).1) (λ n h. is_within_from 0 1 n (omega arith) h) (λ n h. refl)) (λ flag small.
    chosen {Is = λ last. (flag_of last ≡ flag) × IsSpelledLast last} {spelling = behind_flag} (eqb flag 0) (λ e. none flag (eqb-true flag 0 e)) (λ e. some flag (eqb-false flag 0 e) small))
    (λ flag last is h. h.0))
    (λ last h. h.1.1)
    (λ last h. (few last, (refl, h)))
    same
  where
    few : (last : Option (Mark × RegisterOp)) → flag_of last ≤ 1
    few None = omega arith
    few (Some w) = omega arith

    same : (last : Option (Mark × RegisterOp)) → IsSpelledLast last → flag_of last ∷ behind_flag last ≡ last_bytes last
    same None h = refl
    same (Some w) h = ap (λ bytes. 1 ∷ bytes) (sym (append_assoc (u64_bytes w.0.rank) (tag_bytes w.0.id) (name_bytes w.1.word)))

    none : (flag : ℕ) → flag ≡ 0 → Tells (λ bytes. Some (None, bytes)) (λ last. (flag_of last ≡ flag) × IsSpelledLast last) behind_flag
    none flag e = told None (λ last. (flag_of last ≡ flag) × IsSpelledLast last) behind_flag ((sym e, tt), refl) only
      where
        only : (last : Option (Mark × RegisterOp)) → (flag_of last ≡ flag) × IsSpelledLast last → None ≡ last
        only None h = refl
        only (Some w) h = absurd (omega (arith, h.0, e))

    some : (flag : ℕ) → (flag ≡ 0 → ⊥) → flag ≤ 1 → Tells (λ bytes. write_at bytes >>= λ write. Some (Some write.0, write.1)) (λ last. (flag_of last ≡ flag) × IsSpelledLast last) behind_flag
    some flag e small = made Some (λ last. (flag_of last ≡ flag) × IsSpelledLast last) behind_flag write_tells (λ w is. ((omega (arith, e, small), (is.0, is.1.0, is.1.1)), refl)) back
      where
        back : (last : Option (Mark × RegisterOp)) → (flag_of last ≡ flag) × IsSpelledLast last → (w : Mark × RegisterOp) × ((IsRank w.0.rank × (IsTag w.0.id × IsName w.1.word)) × (Some w ≡ last))
        back None h = absurd (e (sym h.0))
        back (Some w) h = (w, ((h.1.0, (h.1.1, h.1.2)), refl))

-- ---- tallies

place_tells : Tells place_at IsSpelledPlace place_bytes
unfolding place_at
place_tells =
    fit (seq (λ (p : Place). p.name) name_tells (λ name n.
    made (λ id. place name id) (λ p. (p.name ≡ name) × IsTag p.id) (λ p. tag_bytes p.id) id_tells
    (λ id is. ((refl, is), refl))
    (λ p h. (p.id, (h.1, (λ i. place (sym h.0 i) p.id)))))
    (λ name p is h. h.0))
    (λ p h. (h.0, h.1.1))
    (λ p h. (h.0, (refl, h.1)))
    (λ p h. refl)

tally_tells : Tells tally_at IsTally delta_bytes
unfolding tally_at
tally_tells =
    made (cast_signed w64) IsTally delta_bytes (of_fields (in_8 is_tally))
    (λ n is. ((read_sfits w64 n, not-true _ is.1), ap u64_bytes (sym (of_z-to_z w64 n is.0))))
    (λ count h.
    let back : cast_signed w64 (cast_unsigned w64 count) ≡ count = to_z-of_z w64 count h.0 in
    (cast_unsigned w64 count, ((Fits-lt-pow {w = w64} (Fits-of_z {w = w64} h.0), rw (back, h.1) refl), back)))

member_tells : Tells member_at IsSpelledMember member_bytes
unfolding member_at
member_tells =
    fit (seq (λ (e : Place × Cell (Unit {0})). e.0) place_tells (λ at a.
    made (λ count. (at, record { count = count; kept = cond (int_lt (pos 0) count) (Some tt) None })) (λ (e : Place × Cell (Unit {0})). (e.0 ≡ at) × (IsTally e.1.count × (e.1.kept ≡ cond (int_lt (pos 0) e.1.count) (Some tt) None))) (λ e. delta_bytes e.1.count) tally_tells
    (λ count is. ((refl, (is, refl)), refl))
    (λ e h. (e.1.count, (h.1.0, (λ i. (sym h.0 i, record { count = e.1.count; kept = sym h.1.1 i }))))))
    (λ at e is h. h.0))
    (λ e h. record { place = h.0; count = h.1.1.0; kept = h.1.1.1 })
    (λ e h. (h.place, (refl, (h.count, h.kept))))
    (λ e h. refl)

put_tells : Tells put_at (λ (put : Put). IsRank put.rank × IsName put.word) (λ put. u64_bytes put.rank ++ name_bytes put.word)
unfolding put_at
put_tells =
    fit (seq (λ (put : Put). put.rank) rank_tells (λ rank r.
    made (λ word. record { rank = rank; word = word }) (λ (put : Put). (put.rank ≡ rank) × IsName put.word) (λ put. name_bytes put.word) name_tells
    (λ word is. ((refl, is), refl))
    (λ put h. (put.word, (h.1, (λ i. record { rank = sym h.0 i; word = put.word })))))
    (λ rank put is h. h.0))
    (λ put h. (h.0, h.1.1))
    (λ put h. (h.0, (refl, h.1)))
    (λ put h. refl)

kept_tells : (live : Bool) → Tells (kept_at live) (IsSpelledKept live) kept_bytes
unfolding kept_at
kept_tells false = told None (IsSpelledKept false) kept_bytes (refl, refl) only
  where
    only : (kept : Option Put) → IsSpelledKept false kept → None ≡ kept
    only None h = refl
    only (Some put) h = absurd cc
kept_tells true = made Some (IsSpelledKept true) kept_bytes put_tells (λ put is. ((refl, is.0, is.1), refl)) back
  where
    back : (kept : Option Put) → IsSpelledKept true kept → (put : Put) × ((IsRank put.rank × IsName put.word) × (Some put ≡ kept))
    back None h = absurd cc
    back (Some put) h = (put, ((h.1, h.2), refl))

entry_tells : Tells entry_at IsSpelledEntry entry_bytes
unfolding entry_at
entry_tells =
    fit (seq (λ (e : Place × Cell Put). e.0) place_tells (λ at a.
    seq (λ (e : Place × Cell Put). e.1.count) tally_tells (λ count c.
    made (λ kept. (at, record { count = count; kept = kept })) (λ (e : Place × Cell Put). (e.0 ≡ at) × ((e.1.count ≡ count) × IsSpelledKept (int_lt (pos 0) count) e.1.kept)) (λ e. kept_bytes e.1.kept) (kept_tells (int_lt (pos 0) count))
    (λ kept is. ((refl, (refl, is)), refl))
    (λ e h. (e.1.kept, (h.1.1, (λ i. (sym h.0 i, record { count = sym h.1.0 i; kept = e.1.kept }))))))
    (λ count e is h. h.1.0))
    (λ at e is h. h.1.0))
    (λ e h. record { place = h.0; count = h.1.0; kept = h.1.1.1.1 })
    (λ e h. (h.place, (h.count, (refl, (refl, h.kept)))))
    (λ e h. sym (append_assoc (place_bytes e.0) (delta_bytes e.1.count) (kept_bytes e.1.kept)))

list_tells : {P : Type 0} {way : List ℕ → Reading (Place × Cell P)} {Is : Place × Cell P → Type 0} {spelling : Place × Cell P → List ℕ} → Tells way Is spelling → Tells (list_at way) (AreTallies Is) (list_bytes spelling)
unfolding list_at
list_tells {P} {way} {Is} {spelling} t =
    fit (seq length any_tells (λ count c. tested (times_tell t count) ascend) (λ count list is h. h.0.0))
    (λ list h. record { few = h.0; each = h.1.0.1; ascending = h.1.1 })
    (λ list h. (h.few, ((refl, h.each), h.ascending)))
    (λ list h. refl)

-- ---- states

-- the byte of a kind, and what follows it
kind_of : PlainState → ℕ
kind_of (Counter sum) = 1
kind_of (Register last) = 2
kind_of (Set tallies) = 3
kind_of (Map tallies) = 4

behind_kind : PlainState → List ℕ
behind_kind (Counter sum) = sum_bytes sum
behind_kind (Register last) = last_bytes last
behind_kind (Set tallies) = list_bytes member_bytes tallies
behind_kind (Map tallies) = list_bytes entry_bytes tallies

-- a state of that kind that has bytes
abbrev IsOfKind : ℕ → PlainState → Type 0
IsOfKind kind state = (kind_of state ≡ kind) × IsSpelled state

body_tells : (kind : ℕ) → (1 ≤ kind) × (kind ≤ 4) → Tells (body_at kind) (IsOfKind kind) behind_kind
unfolding body_at kind_of behind_kind
body_tells kind within =
    chosen (eqb kind 1) (λ e. counter (eqb-true kind 1 e)) (λ not_1.
    chosen (eqb kind 2) (λ e. register (eqb-true kind 2 e)) (λ not_2.
    chosen (eqb kind 3) (λ e. set (eqb-true kind 3 e)) (λ not_3.
    map (last (eqb-false kind 1 not_1) (eqb-false kind 2 not_2) (eqb-false kind 3 not_3) within.0 within.1))))
  where
    last : (kind ≡ 1 → ⊥) → (kind ≡ 2 → ⊥) → (kind ≡ 3 → ⊥) → 1 ≤ kind → kind ≤ 4 → kind ≡ 4
    last p q r low high = omega arith

    counter : kind ≡ 1 → Tells (λ bytes. sum_at bytes >>= λ sum. Some (Counter sum.0, sum.1)) (IsOfKind kind) behind_kind
    counter e = made Counter (IsOfKind kind) behind_kind sum_tells (λ sum is. ((sym e, is), refl)) back
      where
        back : (state : PlainState) → IsOfKind kind state → (sum : ℤ) × (FitsSigned w128 sum × (Counter sum ≡ state))
        back (Counter sum) h = (sum, (h.1, refl))
        back (Register last) h = absurd (omega (arith, e, h.0))
        back (Set tallies) h = absurd (omega (arith, e, h.0))
        back (Map tallies) h = absurd (omega (arith, e, h.0))

    register : kind ≡ 2 → Tells (λ bytes. last_at bytes >>= λ last. Some (Register last.0, last.1)) (IsOfKind kind) behind_kind
    register e = made Register (IsOfKind kind) behind_kind last_tells (λ last is. ((sym e, is), refl)) back
      where
        back : (state : PlainState) → IsOfKind kind state → (last : Option (Mark × RegisterOp)) × (IsSpelledLast last × (Register last ≡ state))
        back (Register last) h = (last, (h.1, refl))
        back (Counter sum) h = absurd (omega (arith, e, h.0))
        back (Set tallies) h = absurd (omega (arith, e, h.0))
        back (Map tallies) h = absurd (omega (arith, e, h.0))

    set : kind ≡ 3 → Tells (λ bytes. list_at member_at bytes >>= λ list. Some (Set list.0, list.1)) (IsOfKind kind) behind_kind
    set e = made Set (IsOfKind kind) behind_kind (list_tells member_tells) (λ list is. ((sym e, is), refl)) back
      where
        back : (state : PlainState) → IsOfKind kind state → (list : List (Place × Cell (Unit {0}))) × (AreTallies IsSpelledMember list × (Set list ≡ state))
        back (Set list) h = (list, (h.1, refl))
        back (Counter sum) h = absurd (omega (arith, e, h.0))
        back (Register last) h = absurd (omega (arith, e, h.0))
        back (Map tallies) h = absurd (omega (arith, e, h.0))

    map : kind ≡ 4 → Tells (λ bytes. list_at entry_at bytes >>= λ list. Some (Map list.0, list.1)) (IsOfKind kind) behind_kind
    map e = made Map (IsOfKind kind) behind_kind (list_tells entry_tells) (λ list is. ((sym e, is), refl)) back
      where
        back : (state : PlainState) → IsOfKind kind state → (list : List (Place × Cell Put)) × (AreTallies IsSpelledEntry list × (Map list ≡ state))
        back (Map list) h = (list, (h.1, refl))
        back (Counter sum) h = absurd (omega (arith, e, h.0))
        back (Register last) h = absurd (omega (arith, e, h.0))
        back (Set tallies) h = absurd (omega (arith, e, h.0))

pub plain_tells : Tells plain_at IsSpelled spelled
unfolding plain_at kind_of behind_kind
plain_tells =
    fit (seq kind_of (fit (of_fields (in_1 (is_within 1 4))) (λ n h. within_is 1 4 n h) (λ n h. is_within_from 1 4 n h.0 h.1) (λ n h. refl)) body_tells (λ kind state is h. h.0))
    (λ state h. h.1.1)
    (λ state h. (within state, (refl, h)))
    same
  where
    within : (state : PlainState) → (1 ≤ kind_of state) × (kind_of state ≤ 4)
    within (Counter sum) = (omega arith, omega arith)
    within (Register last) = (omega arith, omega arith)
    within (Set tallies) = (omega arith, omega arith)
    within (Map tallies) = (omega arith, omega arith)

    same : (state : PlainState) → IsSpelled state → kind_of state ∷ behind_kind state ≡ spelled state
    same (Counter sum) h = refl
    same (Register last) h = refl
    same (Set tallies) h = refl
    same (Map tallies) h = refl

-- ---- objects with their states

pub named_tells : Tells named_at IsSpelledPart part_bytes
unfolding named_at
named_tells =
    fit (seq (λ (part : PlainPart). part.name) name_tells (λ name n.
    made (λ state. record { name = name; state = state }) (λ (part : PlainPart). (part.name ≡ name) × IsSpelled part.state) (λ part. spelled part.state) plain_tells
    (λ state is. ((refl, is), refl))
    (λ part h. (part.state, (h.1, (λ i. record { name = sym h.0 i; state = part.state })))))
    (λ name part is h. h.0))
    (λ part h. (h.0, h.1.1))
    (λ part h. (h.0, (refl, h.1)))
    (λ part h. refl)
