-- What is listed of the operations on an object, one update after another.
use Rattle.std.proofs.Common.{◌≡◌, ◌≤◌, ◌<◌, ◌⊎◌, inl, inr, ℕ, ◌+◌, ◌-◌, Bool, true, false, cond, List, [], ◌∷◌, ◌++◌, length, take, drop, map, get_or, arith, refl, sym, ap, ◌∙◌, subst}
use Rattle.std.specs.Prelude.{Result, Ok, Err, is_err, OnOk, OnErr}
use Rattle.std.proofs.lemmas.Bool.{cases_Bool}
use Rattle.std.proofs.lemmas.List.{take_more, take-take, length-take-le, length-append, length-map, map-append, drop-drop, take_at, append_assoc, append-nil}
use Rattle.std.proofs.lemmas.List.Sums.{sum_by-cons, count_by_more_no, count_by_more_yes}
use Rattle.ids_core.specs.declared.ids.Dot.{Dot}
use Rattle.ids_core.specs.declared.ids.Mark.{Mark}
use Rattle.ids_core.specs.declared.object.ObjectId.{ObjectId}
use Rattle.ids_core.specs.Ids.{same_object}
use Rattle.ids_core.specs.Same.{same_object-true}
use Rattle.tx_core.specs.declared.op.Op.{Op}
use Rattle.tx_core.specs.declared.tx.Update.{Update}
use Rattle.tx_core.specs.Operations.{mark, ops_from}
use Rattle.object_lists.specs.Listed.{counted}

-- ---- the operations of updates

-- what one update adds to the operations of an object
abbrev pub one_more : ObjectId → Mark → Update → List (Mark × Op)
one_more o m u = cond (same_object u.object o) ((m, u.op) ∷ []) []

-- the operations of updates with one more behind them
pub ops_from-last : (o : ObjectId) (rank : ℕ) (dot : Dot) (place : ℕ) (us : List Update) (u : Update) → ops_from o rank dot place (us ++ u ∷ []) ≡ ops_from o rank dot place us ++ one_more o (mark rank dot (place + length us)) u
ops_from-last o rank dot place [] u = ap (λ p. one_more o (mark rank dot p) u) plus
  where
    plus : place ≡ place + 0
    plus = omega arith
ops_from-last o rank dot place (v ∷ us) u =
    go (ops_from-last o rank dot (place + 1) us u ∙ ap (λ p. ops_from o rank dot (place + 1) us ++ one_more o (mark rank dot p) u) plus) (same_object v.object o)
  where
    plus : (place + 1) + length us ≡ place + length (v ∷ us)
    plus = omega arith

    go : ops_from o rank dot (place + 1) (us ++ u ∷ []) ≡ ops_from o rank dot (place + 1) us ++ one_more o (mark rank dot (place + length (v ∷ us))) u → (b : Bool) → cond b ((mark rank dot place, v.op) ∷ ops_from o rank dot (place + 1) (us ++ u ∷ [])) (ops_from o rank dot (place + 1) (us ++ u ∷ [])) ≡ cond b ((mark rank dot place, v.op) ∷ ops_from o rank dot (place + 1) us) (ops_from o rank dot (place + 1) us) ++ one_more o (mark rank dot (place + length (v ∷ us))) u
    go rest true = ap (λ l. (mark rank dot place, v.op) ∷ l) rest
    go rest false = rest

-- one operation for each update on the object
pub length-ops_from : (o : ObjectId) (rank : ℕ) (dot : Dot) (place : ℕ) (us : List Update) → length (ops_from o rank dot place us) ≡ counted o us
length-ops_from o rank dot place [] = refl
length-ops_from o rank dot place (u ∷ us) = go (length-ops_from o rank dot (place + 1) us) (same_object u.object o) ∙ sym (sum_by-cons (λ v. cond (same_object v.object o) 1 0) u us)
  where
    go : length (ops_from o rank dot (place + 1) us) ≡ counted o us → (b : Bool) → length (cond b ((mark rank dot place, u.op) ∷ ops_from o rank dot (place + 1) us) (ops_from o rank dot (place + 1) us)) ≡ cond b 1 0 + counted o us
    go rest true = omega (arith, rest)
    go rest false = omega (arith, rest)

-- ---- what is listed of them

-- the lists of two times, of which the second has x behind what the first has of the object a
abbrev pub PutsLast : {T : Type 0} → (ObjectId → List T) → (ObjectId → List T) → ObjectId → T → Type 0
PutsLast f g a x = (g a ≡ f a ++ x ∷ []) × ((o : ObjectId) → same_object a o ≡ false → g o ≡ f o)

-- one update after the first i of them has what is listed of its operation behind all others
pub put_more : {T : Type 0} (made : Mark × Op → T) (f g h : ObjectId → List T) (rank : ℕ) (dot : Dot) (us : List Update) (i : ℕ) (u : Update) → i < length us → u ≡ get_or us i u → ((o : ObjectId) → g o ≡ f o ++ map made (ops_from o rank dot 0 (take i us))) → PutsLast g h u.object (made (mark rank dot i, u.op)) → (o : ObjectId) → h o ≡ f o ++ map made (ops_from o rank dot 0 (take (i + 1) us))
put_more made f g h rank dot us i u small is before puts o =
    h-is (cases_Bool (same_object u.object o)) ∙ ap (λ l. l ++ map made one) (before o) ∙ append_assoc (f o) (map made ops) (map made one) ∙ ap (λ l. f o ++ l) (sym (map-append made ops one) ∙ ap (map made) (sym more))
  where
    one : List (Mark × Op)
    one = one_more o (mark rank dot i) u

    ops : List (Mark × Op)
    ops = ops_from o rank dot 0 (take i us)

    h-is : (same_object u.object o ≡ true) ⊎ (same_object u.object o ≡ false) → h o ≡ g o ++ map made one
    h-is (inl e) = subst (λ p. h p ≡ g p ++ made (mark rank dot i, u.op) ∷ []) (same_object-true u.object o e) puts.0 ∙ ap (λ b. g o ++ map made (cond b ((mark rank dot i, u.op) ∷ []) [])) (sym e)
    h-is (inr e) = puts.1 o e ∙ sym (append-nil (g o)) ∙ ap (λ b. g o ++ map made (cond b ((mark rank dot i, u.op) ∷ []) [])) (sym e)

    place : 0 + length (take i us) ≡ i
    place = omega (arith, length-take-le i us (omega arith))

    more : ops_from o rank dot 0 (take (i + 1) us) ≡ ops ++ one
    more =
        ap (ops_from o rank dot 0) (take_more us i u small ∙ ap (λ v. take i us ++ v ∷ []) (sym is)) ∙ ops_from-last o rank dot 0 (take i us) u
        ∙ ap (λ n. ops ++ one_more o (mark rank dot n) u) place

-- the same of a first item that is taken away
pub first_more : {T : Type 0} (f g h : ObjectId → List T) (us : List Update) (i : ℕ) (u : Update) → i < length us → u ≡ get_or us i u → ((o : ObjectId) → g o ≡ drop (counted o (take i us)) (f o)) → h u.object ≡ drop 1 (g u.object) → ((o : ObjectId) → same_object u.object o ≡ false → h o ≡ g o) → (o : ObjectId) → h o ≡ drop (counted o (take (i + 1) us)) (f o)
first_more f g h us i u small is before there apart o = at (cases_Bool (same_object u.object o))
  where
    test : Update → Bool
    test v = same_object v.object o

    at : (same_object u.object o ≡ true) ⊎ (same_object u.object o ≡ false) → h o ≡ drop (counted o (take (i + 1) us)) (f o)
    at (inl e) = subst (λ p. h p ≡ drop 1 (g p)) (same_object-true u.object o e) there ∙ ap (drop 1) (before o) ∙ drop-drop 1 (counted o (take i us)) (f o) ∙ ap (λ n. drop n (f o)) (sym (count_by_more_yes test us i u small (ap test (sym is) ∙ e)))
    at (inr e) = apart o e ∙ before o ∙ ap (λ n. drop n (f o)) (sym (count_by_more_no test us i u small (ap test (sym is) ∙ e)))

-- the same of a last one
pub last_more : {T : Type 0} (f g h : ObjectId → List T) (us : List Update) (i : ℕ) (u : Update) → i < length us → u ≡ get_or us i u → ((o : ObjectId) → g o ≡ take (length (f o) - counted o (take i us)) (f o)) → h u.object ≡ take (length (g u.object) - 1) (g u.object) → ((o : ObjectId) → same_object u.object o ≡ false → h o ≡ g o) → (o : ObjectId) → h o ≡ take (length (f o) - counted o (take (i + 1) us)) (f o)
last_more {T} f g h us i u small is before there apart o = at (cases_Bool (same_object u.object o))
  where
    test : Update → Bool
    test v = same_object v.object o

    less : (l : List T) (n : ℕ) → n ≤ length l → take (length (take n l) - 1) (take n l) ≡ take (n - 1) l
    less l n few = ap (λ m. take (m - 1) (take n l)) (length-take-le n l few) ∙ take-take (n - 1) n l (omega arith)

    at : (same_object u.object o ≡ true) ⊎ (same_object u.object o ≡ false) → h o ≡ take (length (f o) - counted o (take (i + 1) us)) (f o)
    at (inl e) =
        let c = counted o (take i us) in
        let more : (length (f o) - c) - 1 ≡ length (f o) - counted o (take (i + 1) us) = omega (arith, count_by_more_yes test us i u small (ap test (sym is) ∙ e)) in
        subst (λ p. h p ≡ take (length (g p) - 1) (g p)) (same_object-true u.object o e) there ∙ ap (λ l. take (length l - 1) l) (before o) ∙ less (f o) (length (f o) - c) (omega arith) ∙ ap (λ n. take n (f o)) more
    at (inr e) = apart o e ∙ before o ∙ ap (λ n. take (length (f o) - n) (f o)) (sym (count_by_more_no test us i u small (ap test (sym is) ∙ e)))

-- as many items are taken away at the end as were put there
pub put_back : {T : Type 0} (made : Mark × Op → T) (o : ObjectId) (rank : ℕ) (dot : Dot) (us : List Update) (l m n : List T) → m ≡ l ++ map made (ops_from o rank dot 0 us) → n ≡ take (length m - counted o us) m → n ≡ l
put_back made o rank dot us l m n was is =
    let ops = ops_from o rank dot 0 us in
    let many : length l ≡ length m - counted o us = omega (arith, ap length was, length-append l (map made ops), length-map ops made, length-ops_from o rank dot 0 us) in
    is ∙ ap (take (length m - counted o us)) was ∙ take_at l (map made ops) (length m - counted o us) many

-- ---- results

-- what holds on success holds where no error came
pub no_error : {T E P : Type 0} (r : Result T E) → is_err r ≡ false → OnOk r P → P
no_error (Ok x) e p = p
no_error (Err x) e p = cc

-- what holds on an error holds where one came
pub some_error : {T E P : Type 0} (r : Result T E) → is_err r ≡ true → OnErr r P → P
some_error (Ok x) e p = cc
some_error (Err x) e p = p
