-- The order of vectors, its test, and the first lack.
use Rattle.std.proofs.Common.{◌≡◌, ◌≤◌, ◌<◌, ◌↔◌, ℕ, zero, suc, ◌+◌, ◌-◌, Bool, true, false, cond, leb, ltb, List, [], ◌∷◌, length, get_or, drop, Option, Some, None, IsTrue, refl, sym, ap, ◌∙◌, arith, ⊎_elim, inl, inr, ◌⊎◌}
use Rattle.std.specs.Prelude.{slice_index}
use Rattle.std.proofs.lemmas.Bool.{cases_Bool, cases_lt, and_parts, and_from, leb-true, le-leb, ltb-true, ltb-false, lt-ltb, le-ltb, cond-true, cond-false, false≢true}
use Rattle.std.proofs.lemmas.Option.{none-some, same_Some}
use Rattle.vv_core.specs.declared.stamp.Lack.{Lack}
use Rattle.vv_core.specs.Vectors.{at, Covers, covers, tabulate, join_of, meet_of, lack_or, lack_from, lack_of, IsFirstLack}
use Rattle.vv_core.proofs.Entrywise.{at-join_of, at-meet_of, at_past, at-tabulate, same_vectors}

-- ---- the order

-- a vector covers itself
pub Covers_refl : (v : List ℕ) → Covers v v
Covers_refl v = record { holds = λ e. omega arith }

-- what covers a vector covers all that this covers
pub Covers_trans : (u v w : List ℕ) → Covers u v → Covers v w → Covers u w
Covers_trans u v w more less = record { holds = λ e. omega (arith, more.holds e, less.holds e) }

-- two vectors of one width that cover one another are one
pub Covers_antisym : (v w : List ℕ) → length v ≡ length w → Covers v w → Covers w v → v ≡ w
Covers_antisym v w len more less = same_vectors v w len (λ e one few. omega (arith, more.holds e, less.holds e))

-- a join covers its left side
pub Covers-join_left : (v w : List ℕ) → Covers (join_of v w) v
Covers-join_left v w = record { holds = λ e. omega (arith, at-join_of v w e) }

-- and its right side
pub Covers-join_right : (v w : List ℕ) → Covers (join_of v w) w
Covers-join_right v w = record { holds = λ e. omega (arith, at-join_of v w e) }

-- what covers both sides covers the join
pub Covers_join : (u v w : List ℕ) → Covers u v → Covers u w → Covers u (join_of v w)
Covers_join u v w left right = record { holds = λ e. omega (arith, at-join_of v w e, left.holds e, right.holds e) }

-- the left side covers the meet
pub Covers-meet_left : (v w : List ℕ) → Covers v (meet_of v w)
Covers-meet_left v w = record { holds = λ e. omega (arith, at-meet_of v w e) }

-- and so does the right side
pub Covers-meet_right : (v w : List ℕ) → Covers w (meet_of v w)
Covers-meet_right v w = record { holds = λ e. omega (arith, at-meet_of v w e) }

-- a meet covers what both sides cover
pub Covers_meet : (u v w : List ℕ) → Covers u w → Covers v w → Covers (meet_of u v) w
Covers_meet u v w left right = record { holds = λ e. omega (arith, at-meet_of u v e, left.holds e, right.holds e) }

-- a vector of what stands at each centre covers one of n entries that are no greater
pub Covers-tabulate : (n : ℕ) (f : ℕ → ℕ) (v : List ℕ) → length v ≡ n → ((e : ℕ) → at v e ≤ f e) → Covers (tabulate n f) v
Covers-tabulate n f v wide le = record { holds = each }
  where
    each : (e : ℕ) → at v e ≤ at (tabulate n f) e
    each zero = omega arith
    each (suc e) =
        ⊎_elim
        (λ past. omega (arith, at_past v (suc e) (omega (arith, wide, past))))
        (λ few. omega (arith, le (suc e), at-tabulate n (suc e) f (omega arith) few))
        (cases_lt n (suc e))

-- ---- the test says it

-- where the test says so, each entry is covered, by its place from 0
pub covers_places : (v w : List ℕ) → covers v w ≡ true → (i : ℕ) → get_or w i 0 ≤ get_or v i 0
covers_places v [] is i = omega arith
covers_places [] (y ∷ w) is zero = leb-true y 0 (and_parts (leb y 0) (covers [] w) is).0
covers_places [] (y ∷ w) is (suc i) = covers_places [] w (and_parts (leb y 0) (covers [] w) is).1 i
covers_places (x ∷ v) (y ∷ w) is zero = leb-true y x (and_parts (leb y x) (covers v w) is).0
covers_places (x ∷ v) (y ∷ w) is (suc i) = covers_places v w (and_parts (leb y x) (covers v w) is).1 i

-- where each entry is covered, the test says so
pub covers_from_places : (v w : List ℕ) → ((i : ℕ) → get_or w i 0 ≤ get_or v i 0) → covers v w ≡ true
covers_from_places v [] le = refl
covers_from_places [] (y ∷ w) le = and_from (leb y 0) (covers [] w) (le-leb y 0 (le 0)) (covers_from_places [] w (λ i. le (suc i)))
covers_from_places (x ∷ v) (y ∷ w) le = and_from (leb y x) (covers v w) (le-leb y x (le 0)) (covers_from_places v w (λ i. le (suc i)))

-- the test says that the vector covers
pub covers-true : (v w : List ℕ) → covers v w ≡ true → Covers v w
covers-true v w is = record { holds = each }
  where
    each : (e : ℕ) → at w e ≤ at v e
    each zero = omega arith
    each (suc i) = covers_places v w is i

-- and says so of each that covers
pub covers_from : (v w : List ℕ) → Covers v w → covers v w ≡ true
covers_from v w h = covers_from_places v w (λ i. h.holds (suc i))

-- a test of each place is that test
pub is_covers : (v w : List ℕ) (r : Bool) → (IsTrue r ↔ ((i : ℕ) → slice_index w i ≤ slice_index v i)) → r ≡ covers v w
is_covers v w true h = sym (covers_from_places v w (h.0 refl))
is_covers v w false h = by_test (cases_Bool (covers v w))
  where
    by_test : (covers v w ≡ true) ⊎ (covers v w ≡ false) → false ≡ covers v w
    by_test (inl is) = absurd (false≢true (h.1 (covers_places v w is)))
    by_test (inr is) = sym is

-- ---- the first lack

-- where nothing is lacked at the centre nor later, both are so
lack_or-none : (e have need : ℕ) (later : Option Lack) → lack_or e have need later ≡ None → (need ≤ have) × (later ≡ None)
lack_or-none e have need later is = by_test (ltb have need) refl is
  where
    by_test : (b : Bool) → ltb have need ≡ b → cond b (Some (record { centre = e; need = need; have = have })) later ≡ None → (need ≤ have) × (later ≡ None)
    by_test true lt is = absurd (none-some _ (sym is))
    by_test false le is = (ltb-false have need le, is)

-- what is lacked is the lack of the centre, or what is lacked later
lack_or-some : (e have need : ℕ) (later : Option Lack) (lack : Lack) → lack_or e have need later ≡ Some lack → ((have < need) × (record { centre = e; need = need; have = have } ≡ lack)) ⊎ ((need ≤ have) × (later ≡ Some lack))
lack_or-some e have need later lack is = by_test (ltb have need) refl is
  where
    by_test : (b : Bool) → ltb have need ≡ b → cond b (Some (record { centre = e; need = need; have = have })) later ≡ Some lack → ((have < need) × (record { centre = e; need = need; have = have } ≡ lack)) ⊎ ((need ≤ have) × (later ≡ Some lack))
    by_test true lt is = inl (ltb-true have need lt, same_Some _ lack is)
    by_test false le is = inr (ltb-false have need le, is)

-- nothing is lacked exactly where each entry is covered
lack_from-none : (e : ℕ) (have need : List ℕ) → lack_from e have need ≡ None → covers have need ≡ true
lack_from-none e have [] none = refl
lack_from-none e [] (n ∷ need) none =
    let h = lack_or-none e 0 n (lack_from (e + 1) [] need) none in
    and_from (leb n 0) (covers [] need) (le-leb n 0 h.0) (lack_from-none (e + 1) [] need h.1)
lack_from-none e (x ∷ have) (n ∷ need) none =
    let h = lack_or-none e x n (lack_from (e + 1) have need) none in
    and_from (leb n x) (covers have need) (le-leb n x h.0) (lack_from-none (e + 1) have need h.1)

-- where nothing is lacked, the vector is covered
pub lack_of-none : (have need : List ℕ) → lack_of have need ≡ None → covers have need ≡ true
lack_of-none have need none = lack_from-none 1 have need none

-- what is lacked first, of lists of entries the first of which has the centre e
record IsLackFrom (e : ℕ) (have need : List ℕ) (lack : Lack) : Type 0 where
  place : ℕ
  few : place < length need
  centre : lack.centre ≡ e + place
  number : lack.need ≡ get_or need place 0
  has : lack.have ≡ get_or have place 0
  lacks : lack.have < lack.need
  before : (i : ℕ) → i < place → get_or need i 0 ≤ get_or have i 0

-- where the first entry is lacked, it is the first lack
lack_here : (e h n : ℕ) (have need : List ℕ) (lack : Lack) → get_or have 0 0 ≡ h → h < n → record { centre = e; need = n; have = h } ≡ lack → IsLackFrom e have (n ∷ need) lack
lack_here e h n have need lack first lt is = record {
  place = 0;
  few = omega arith;
  centre = omega (arith, ap (λ (l : Lack). l.centre) is);
  number = sym (ap (λ (l : Lack). l.need) is);
  has = sym (ap (λ (l : Lack). l.have) is) ∙ sym first;
  lacks = omega (arith, ap (λ (l : Lack). l.need) is, ap (λ (l : Lack). l.have) is, lt);
  before = λ i no. absurd (omega arith);
}

-- where the first entry is covered, the first lack is that of the others
lack_later : (e n : ℕ) (have rest need : List ℕ) (lack : Lack) → ((i : ℕ) → get_or have (suc i) 0 ≡ get_or rest i 0) → n ≤ get_or have 0 0 → IsLackFrom (e + 1) rest need lack → IsLackFrom e have (n ∷ need) lack
lack_later e n have rest need lack shifted le l = record {
  place = suc l.place;
  few = omega (arith, l.few);
  centre = omega (arith, l.centre);
  number = l.number;
  has = l.has ∙ sym (shifted l.place);
  lacks = l.lacks;
  before = earlier;
}
  where
    earlier : (i : ℕ) → i < suc l.place → get_or (n ∷ need) i 0 ≤ get_or have i 0
    earlier zero lt = le
    earlier (suc i) lt = omega (arith, l.before i (omega (arith, lt)), shifted i)

-- a lack that is found is the first
lack_from-some : (e : ℕ) (have need : List ℕ) (lack : Lack) → lack_from e have need ≡ Some lack → IsLackFrom e have need lack
lack_from-some e have [] lack is = absurd (none-some lack is)
lack_from-some e [] (n ∷ need) lack is =
    ⊎_elim
    (λ h. lack_here e 0 n [] need lack refl h.0 h.1)
    (λ h. lack_later e n [] [] need lack (λ i. refl) h.0 (lack_from-some (e + 1) [] need lack h.1))
    (lack_or-some e 0 n (lack_from (e + 1) [] need) lack is)
lack_from-some e (x ∷ have) (n ∷ need) lack is =
    ⊎_elim
    (λ h. lack_here e x n (x ∷ have) need lack refl h.0 h.1)
    (λ h. lack_later e n (x ∷ have) have need lack (λ i. refl) h.0 (lack_from-some (e + 1) have need lack h.1))
    (lack_or-some e x n (lack_from (e + 1) have need) lack is)

-- so the lack that is found is the first of all
pub lack_of-some : (have need : List ℕ) (lack : Lack) → lack_of have need ≡ Some lack → IsFirstLack have need lack
lack_of-some have need lack is = first (lack_from-some 1 have need lack is)
  where
    first : IsLackFrom 1 have need lack → IsFirstLack have need lack
    first l =
        let there : lack.centre ≡ suc l.place = omega (arith, l.centre) in
        record {
          centre = (omega (arith, there), omega (arith, there, l.few));
          number = l.number ∙ sym (ap (at need) there);
          has = l.has ∙ sym (ap (at have) there);
          lacks = l.lacks;
          before = earlier there;
        }
      where
        earlier : lack.centre ≡ suc l.place → (e : ℕ) → e < lack.centre → at need e ≤ at have e
        earlier there zero lt = omega arith
        earlier there (suc i) lt = l.before i (omega (arith, there, lt))

-- the covered lists have no lack
pub lack_of_covered : (have need : List ℕ) → covers have need ≡ true → lack_of have need ≡ None
lack_of_covered have need is = by_answer (lack_of have need) refl
  where
    by_answer : (o : Option Lack) → lack_of have need ≡ o → o ≡ None
    by_answer None e = refl
    by_answer (Some lack) e =
        let l = lack_of-some have need lack e in
        absurd (omega (arith, l.lacks, l.number, l.has, (covers-true have need is).holds lack.centre))

-- ---- a loop over the centres: what is left to look at before the centre c, and after it

-- what is lacked from an entry on is its own lack, or that of the later ones
lack_from_next : (c i : ℕ) (have need : List ℕ) → i < length have → i < length need → lack_from c (drop i have) (drop i need) ≡ lack_or c (get_or have i 0) (get_or need i 0) (lack_from (c + 1) (drop (suc i) have) (drop (suc i) need))
lack_from_next c i [] need more enough = absurd (omega arith)
lack_from_next c i (x ∷ have) [] more enough = absurd (omega arith)
lack_from_next c zero (x ∷ have) (n ∷ need) more enough = refl
lack_from_next c (suc i) (x ∷ have) (n ∷ need) more enough = lack_from_next c i have need (omega arith) (omega arith)

-- past a covered entry the first lack is the same
pub lack_from_covered : (c : ℕ) (have need : List ℕ) → 1 ≤ c → c ≤ length have → c ≤ length need → at need c ≤ at have c → lack_from (c + 1) (drop c have) (drop c need) ≡ lack_from c (drop (c - 1) have) (drop (c - 1) need)
lack_from_covered zero have need one more enough le = absurd (omega arith)
lack_from_covered (suc i) have need one more enough le =
    let before : suc i - 1 ≡ i = omega arith in
    let skip : lack_or (suc i) (get_or have i 0) (get_or need i 0) (lack_from (suc i + 1) (drop (suc i) have) (drop (suc i) need)) ≡ lack_from (suc i + 1) (drop (suc i) have) (drop (suc i) need) = cond-false _ _ _ (le-ltb _ _ le) in
    sym (ap (λ k. lack_from (suc i) (drop k have) (drop k need)) before ∙ (lack_from_next (suc i) i have need (omega arith) (omega arith) ∙ skip))

-- at an entry that is lacked the first lack is its own
pub lack_from_lacking : (c : ℕ) (have need : List ℕ) → 1 ≤ c → c ≤ length have → c ≤ length need → at have c < at need c → lack_from c (drop (c - 1) have) (drop (c - 1) need) ≡ Some (record { centre = c; need = at need c; have = at have c })
lack_from_lacking zero have need one more enough lt = absurd (omega arith)
lack_from_lacking (suc i) have need one more enough lt =
    let before : suc i - 1 ≡ i = omega arith in
    ap (λ k. lack_from (suc i) (drop k have) (drop k need)) before ∙ (lack_from_next (suc i) i have need (omega arith) (omega arith) ∙ cond-true _ _ _ (lt-ltb _ _ lt))

-- past the last entry nothing is lacked
pub lack_from_end : (c : ℕ) (have need : List ℕ) → length need < c → lack_from c (drop (c - 1) have) (drop (c - 1) need) ≡ None
lack_from_end c have need past = ap (λ rest. lack_from c (drop (c - 1) have) rest) (drop-past need (c - 1) (omega arith))
  where
    drop-past : (xs : List ℕ) (i : ℕ) → length xs ≤ i → drop i xs ≡ []
    drop-past [] zero le = refl
    drop-past [] (suc i) le = refl
    drop-past (x ∷ xs) zero le = absurd (omega arith)
    drop-past (x ∷ xs) (suc i) le = drop-past xs i (omega arith)
