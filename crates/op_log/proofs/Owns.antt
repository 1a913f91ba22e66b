-- The transactions of a client, from its last one back.
use Rattle.std.proofs.Common.{◌≡◌, ◌≤◌, ◌<◌, ◌^◌, ℕ, Bool, true, false, cond, max, inl, inr, ⊎_elim, Some, List, [], ◌∷◌, ◌++◌, refl, sym, ap, ◌∙◌, subst, arith}
use Rattle.std.specs.Prelude.{◌&&◌, ◌==◌, not, filter}
use Rattle.std.specs.Ordering.{is_eq, is_le, is_lt, nat_cmp, ordering_then}
use Rattle.std.specs.declared.cmp.Ordering.{Ordering}
use Rattle.std.specs.declared.cmp.Ordering.TheVariants.{Less, Equal, Greater}
use Rattle.std.specs.declared.ops.Bound.TheVariants.{Included}
use Rattle.std.specs.Map.{lookup, keys_of}
use Rattle.std.specs.BTreeMap.{is_at}
use Rattle.std.specs.BTreeMap.Range.{entries_between, range_contains}
use Rattle.std.specs.List.{AllByRecursion}
use Rattle.std.specs.List.Sorted.{IsStrictlySortedBy}
use Rattle.std.proofs.lemmas.Bool.{false≢true, and_parts, and_from}
use Rattle.std.proofs.lemmas.Bool.Decides.{Decides-eqb, nat_tests}
use Rattle.std.proofs.lemmas.Option.{none-some, same_Some}
use Rattle.list_core.specs.Members.{In}
use Rattle.list_core.proofs.Members.{In_left, In_more, In_filter, In_from_filter, In_right}
use Rattle.ids_core.specs.declared.ids.Dot.{Dot}
use Rattle.ids_core.specs.Ids.{same_dot}
use Rattle.ids_core.specs.Same.{same_dot-true, same_dot-same}
use Rattle.ids_core.specs.Orders.{dot_cmp}
use Rattle.op_log.specs.declared.logged.Logged.{Logged}
use Rattle.op_log.specs.Logs.{is_inside, mine_in}
use Rattle.op_log.specs.Tables.{Names, HasFits, is_own_inside}
use Rattle.stamp_index.proofs.Finds.{found_none, found_some}

-- ---- the greatest number

-- it is at least each number
pub mine_most : (c : ℕ) (w : List ℕ) (items : List Logged) (x : Logged) → In x items → x.tx.dot.client ≡ c → is_inside w x ≡ true → x.tx.dot.number ≤ mine_in c w items
mine_most c w [] x i own pass = absurd i
mine_most c w (y ∷ items) x (inl same) own pass =
    let test : ((y.tx.dot.client == c) && is_inside w y) ≡ true = and_from (y.tx.dot.client == c) (is_inside w y) ((Decides-eqb y.tx.dot.client c).1 (ap (λ z. z.tx.dot.client) (sym same) ∙ own)) (ap (is_inside w) (sym same) ∙ pass) in
    let here : cond ((y.tx.dot.client == c) && is_inside w y) y.tx.dot.number 0 ≡ y.tx.dot.number = ap (λ b. cond b y.tx.dot.number 0) test in
    let one : x.tx.dot.number ≡ y.tx.dot.number = ap (λ z. z.tx.dot.number) same in
    omega arith
mine_most c w (y ∷ items) x (inr i) own pass =
    let rest : x.tx.dot.number ≤ mine_in c w items = mine_most c w items x i own pass in
    omega arith

-- it is at most what each number is at most
pub mine_least : (c m : ℕ) (w : List ℕ) (items : List Logged) → ((x : Logged) → In x items → x.tx.dot.client ≡ c → is_inside w x ≡ true → x.tx.dot.number ≤ m) → mine_in c w items ≤ m
mine_least c m w [] each = omega arith
mine_least c m w (y ∷ items) each = go ((y.tx.dot.client == c) && is_inside w y) refl (mine_least c m w items (λ x i. each x (inr i)))
  where
    go : (b : Bool) → ((y.tx.dot.client == c) && is_inside w y) ≡ b → mine_in c w items ≤ m → max (cond b y.tx.dot.number 0) (mine_in c w items) ≤ m
    go true is rest =
        let parts = and_parts (y.tx.dot.client == c) (is_inside w y) is in
        let here : y.tx.dot.number ≤ m = each y (inl refl) ((Decides-eqb y.tx.dot.client c).0 parts.0) parts.1 in
        omega arith
    go false is rest = omega arith

-- ---- what is left to look at

-- the numbers of the dots do not fall
abbrev pub Climbs : List (Dot × ℕ) → Type 0
Climbs [] = Unit {0}
Climbs (e ∷ es) = ((f : Dot × ℕ) → In f es → e.0.number ≤ f.0.number) × Climbs es

-- the last is the greatest
climbs_last : (t : List (Dot × ℕ)) (e : Dot × ℕ) → Climbs (t ++ e ∷ []) → Climbs t × ((f : Dot × ℕ) → In f t → f.0.number ≤ e.0.number)
climbs_last [] e climbs = (tt, λ f i. absurd i)
climbs_last (g ∷ t) e climbs =
    let r = climbs_last t e climbs.1 in (
      (λ f i. climbs.0 f (In_left t (e ∷ []) f i), r.0),
      λ f i. ⊎_elim (λ same. subst (λ h. h.0.number ≤ e.0.number) (sym same) (climbs.0 e (In_right t (e ∷ []) e (inl refl)))) (λ j. r.1 f j) i,
    )

-- what is left: dots of the client, whose numbers do not fall, with those of all transactions of the
-- client with a stamp within the vector
pub record Unseen (c : ℕ) (w : List ℕ) (items : List Logged) (left : List (Dot × ℕ)) : Type 0 where
  pub own : (e : Dot × ℕ) → In e left → e.0.client ≡ c
  pub climbs : Climbs left
  pub all : (x : Logged) → In x items → x.tx.dot.client ≡ c → is_inside w x ≡ true → In (x.tx.dot, x.number) left

-- the last one is found
pub mine_found : (c : ℕ) (w : List ℕ) (items : List Logged) (s t : List (Dot × ℕ)) (d : Dot) (n : ℕ) → Unseen c w items s → s ≡ t ++ (d, n) ∷ [] → true ≡ is_own_inside w d n items → d.number ≡ mine_in c w items
mine_found c w items s t d n unseen is pass = omega (arith, up, down)
  where
    here : Unseen c w items (t ++ (d, n) ∷ [])
    here = subst (λ l. Unseen c w items l) is unseen

    up : mine_in c w items ≤ d.number
    up = mine_least c d.number w items (λ x i own within. ⊎_elim (λ j. (climbs_last t (d, n) here.climbs).1 (x.tx.dot, x.number) j) (λ same. omega (arith, ap (λ e. e.0.number) same)) (In_more t (d, n) (x.tx.dot, x.number) (here.all x i own within)))

    down : d.number ≤ mine_in c w items
    down = by (found_some (λ x. (x.number == n) && (same_dot x.tx.dot d && is_inside w x)) items (sym pass))
      where
        by : (x : Logged) × In x items × (((x.number == n) && (same_dot x.tx.dot d && is_inside w x)) ≡ true) → d.number ≤ mine_in c w items
        by (x, i, test) =
            let parts = and_parts (x.number == n) (same_dot x.tx.dot d && is_inside w x) test in
            let both = and_parts (same_dot x.tx.dot d) (is_inside w x) parts.1 in
            let dot = same_dot-true x.tx.dot d both.0 in
            let client : x.tx.dot.client ≡ c = ap (λ d. d.client) dot ∙ here.own (d, n) (In_right t ((d, n) ∷ []) (d, n) (inl refl)) in
            let most : x.tx.dot.number ≤ mine_in c w items = mine_most c w items x i client both.1 in
            let one : x.tx.dot.number ≡ d.number = ap (λ d. d.number) dot in
            omega arith

-- the last one is passed over
pub unseen_less : (c : ℕ) (w : List ℕ) (items : List Logged) (s t : List (Dot × ℕ)) (d : Dot) (n : ℕ) → Unseen c w items s → s ≡ t ++ (d, n) ∷ [] → false ≡ is_own_inside w d n items → Unseen c w items t
unseen_less c w items s t d n unseen is fail = record {
  own = λ e i. here.own e (In_left t ((d, n) ∷ []) e i);
  climbs = (climbs_last t (d, n) here.climbs).0;
  all = λ x i own within. ⊎_elim (λ j. j) (λ same. absurd (false≢true (sym (found_none (λ x. (x.number == n) && (same_dot x.tx.dot d && is_inside w x)) items x (sym fail) i)
      ∙ and_from (x.number == n) (same_dot x.tx.dot d && is_inside w x) ((Decides-eqb x.number n).1 (ap (λ e. e.1) same)) (and_from (same_dot x.tx.dot d) (is_inside w x) (same_dot-same x.tx.dot d (ap (λ e. e.0) same)) within)))) (In_more t (d, n) (x.tx.dot, x.number) (here.all x i own within));
}
  where
    here : Unseen c w items (t ++ (d, n) ∷ [])
    here = subst (λ l. Unseen c w items l) is unseen

-- nothing is left
pub mine_none : (c : ℕ) (w : List ℕ) (items : List Logged) (s : List (Dot × ℕ)) → Unseen c w items s → s ≡ [] → 0 ≡ mine_in c w items
mine_none c w items s unseen is = omega (arith, mine_least c 0 w items (λ x i own within. absurd (subst (λ l. In (x.tx.dot, x.number) l) is (unseen.all x i own within))))

-- ---- where it begins

-- the first and the last dot that a client may have
abbrev pub first_dot : ℕ → Dot
first_dot c = record { client = c; number = 0 }

abbrev pub last_dot : ℕ → Dot
last_dot c = record { client = c; number = 18446744073709551615 }

-- whether a dot is of the client
abbrev of_client : ℕ → Dot → Bool
of_client c d = range_contains dot_cmp (Included (first_dot c)) (Included (last_dot c)) d

same_number : (m n : ℕ) → nat_cmp m n ≡ Equal → m ≡ n
same_number m n is = grind (arith, nat_tests)

equal_number : (m n : ℕ) → m ≡ n → nat_cmp m n ≡ Equal
equal_number m n is = grind (arith, nat_tests)

less_number : (m n : ℕ) → nat_cmp m n ≡ Less → m ≤ n
less_number m n is = grind (arith, nat_tests)

from_zero : (n : ℕ) → is_le (nat_cmp 0 n) ≡ true
from_zero n = grind (arith, nat_tests)

not_above : (m n : ℕ) → n ≤ m → not (is_lt (nat_cmp m n)) ≡ true
not_above m n le = grind (arith, nat_tests)

to_last : (n : ℕ) → n < 2 ^ 64 → not (is_lt (nat_cmp 18446744073709551615 n)) ≡ true
to_last n fits = not_above 18446744073709551615 n (omega (arith, fits))

-- what is equal in the order of dots is the same
same_place : (d e : Dot) → is_at (dot_cmp d) e ≡ true → d ≡ e
same_place d e is = by (nat_cmp d.client e.client) refl (nat_cmp d.number e.number) refl is
  where
    by : (o : Ordering) → nat_cmp d.client e.client ≡ o → (r : Ordering) → nat_cmp d.number e.number ≡ r → is_eq (ordering_then o r) ≡ true → d ≡ e
    by Equal client Equal number is =
        let one = same_number d.client e.client client in
        let two = same_number d.number e.number number in
        λ i. record { client = one i; number = two i }
    by Equal client Less number is = absurd (false≢true is)
    by Equal client Greater number is = absurd (false≢true is)
    by Less client r number is = absurd (false≢true is)
    by Greater client r number is = absurd (false≢true is)

-- such dots are of the client
in_client : (c : ℕ) (d : Dot) → of_client c d ≡ true → d.client ≡ c
in_client c d is = by (nat_cmp c d.client) refl (and_parts (is_le (dot_cmp (first_dot c) d)) (not (is_lt (dot_cmp (last_dot c) d))) is)
  where
    by : (o : Ordering) → nat_cmp c d.client ≡ o → (is_le (ordering_then o (nat_cmp 0 d.number)) ≡ true) × (not (is_lt (ordering_then o (nat_cmp 18446744073709551615 d.number))) ≡ true) → d.client ≡ c
    by Less is parts = absurd (false≢true parts.1)
    by Equal is parts = sym (same_number c d.client is)
    by Greater is parts = absurd (false≢true parts.0)

-- and the client's dots are such
client_in : (c : ℕ) (d : Dot) → d.client ≡ c → d.number < 2 ^ 64 → of_client c d ≡ true
client_in c d own fits = subst (λ o. (is_le (ordering_then o (nat_cmp 0 d.number)) && not (is_lt (ordering_then o (nat_cmp 18446744073709551615 d.number)))) ≡ true) (sym (equal_number c d.client (sym own))) (and_from (is_le (nat_cmp 0 d.number)) (not (is_lt (nat_cmp 18446744073709551615 d.number))) (from_zero d.number) (to_last d.number fits))

-- of two dots of a client the greater has the greater number
number_after : (d e : Dot) → d.client ≡ e.client → dot_cmp d e ≡ Less → d.number ≤ e.number
number_after d e one less = less_number d.number e.number (subst (λ o. ordering_then o (nat_cmp d.number e.number) ≡ Less) (equal_number d.client e.client one) less)

-- what is found at a key is a member
found_entry : (d : Dot) (n : ℕ) (es : List (Dot × ℕ)) → lookup (is_at (dot_cmp d)) es ≡ Some n → In (d, n) es
found_entry d n [] is = absurd (none-some n is)
found_entry d n (e ∷ es) is = go (is_at (dot_cmp d) e.0) refl is (λ is. found_entry d n es is)
  where
    go : (b : Bool) → is_at (dot_cmp d) e.0 ≡ b → cond b (Some e.1) (lookup (is_at (dot_cmp d)) es) ≡ Some n → (lookup (is_at (dot_cmp d)) es ≡ Some n → In (d, n) es) → In (d, n) (e ∷ es)
    go true at is rest = inl (ap (λ k. (k, n)) (same_place d e.0 at) ∙ ap (λ v. (e.0, v)) (sym (same_Some e.1 n is)))
    go false at is rest = inr (rest is)

behind_all : (d : Dot) (es : List (Dot × ℕ)) → AllByRecursion (λ y. dot_cmp d y ≡ Less) (keys_of es) → (f : Dot × ℕ) → In f es → dot_cmp d f.0 ≡ Less
behind_all d [] all f i = absurd i
behind_all d (e ∷ es) all f (inl same) = subst (λ g. dot_cmp d g.0 ≡ Less) (sym same) all.0
behind_all d (e ∷ es) all f (inr i) = behind_all d es all.1 f i

climbs_from : (c : ℕ) (es : List (Dot × ℕ)) → IsStrictlySortedBy dot_cmp (keys_of es) → Climbs (filter (λ e. of_client c e.0) es)
unfolding IsStrictlySortedBy
climbs_from c [] sorted = tt
climbs_from c (e ∷ es) sorted = go (of_client c e.0) refl (climbs_from c es sorted.1)
  where
    go : (b : Bool) → of_client c e.0 ≡ b → Climbs (filter (λ e. of_client c e.0) es) → Climbs (cond b (e ∷ filter (λ e. of_client c e.0) es) (filter (λ e. of_client c e.0) es))
    go true is rest = (
      λ f i. let r = In_from_filter (λ (e : Dot × ℕ). of_client c e.0) es f i in number_after e.0 f.0 (in_client c e.0 is ∙ sym (in_client c f.0 r.1)) (behind_all e.0 es sorted.0 f r.0),
      rest,
    )
    go false is rest = rest

-- at first all dots of the client are left
pub unseen_all : (c : ℕ) (w : List ℕ) (items : List Logged) (dots : List (Dot × ℕ)) → IsStrictlySortedBy dot_cmp (keys_of dots) → Names dots items → HasFits items → Unseen c w items (entries_between dot_cmp (Included (first_dot c)) (Included (last_dot c)) dots)
unseen_all c w items dots sorted names fits = record {
  own = λ e i. in_client c e.0 (In_from_filter (λ (e : Dot × ℕ). of_client c e.0) dots e i).1;
  climbs = climbs_from c dots sorted;
  all = λ x i own within. In_filter (λ (e : Dot × ℕ). of_client c e.0) dots (x.tx.dot, x.number) (found_entry x.tx.dot x.number dots (names x i)) (client_in c x.tx.dot own (fits x i));
}
