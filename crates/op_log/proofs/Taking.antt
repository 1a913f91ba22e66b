-- Transactions that are taken out, with their dots and places.
use Rattle.std.proofs.Common.{◌≡◌, ◌≢◌, ◌≤◌, ℕ, ◌-◌, Bool, true, false, cond, ◌⊎◌, inl, inr, ⊎_elim, Option, Some, None, List, [], ◌∷◌, length, refl, sym, ap, ◌∙◌, subst, arith}
use Rattle.std.specs.Prelude.{not, filter}
use Rattle.std.specs.Ordering.{nat_cmp}
use Rattle.std.specs.Map.{lookup, remove_entry, values_of}
use Rattle.std.specs.BTreeMap.{is_at}
use Rattle.std.proofs.lemmas.Bool.{cases_Bool, false≢true}
use Rattle.std.proofs.lemmas.Bool.Decides.{Decides-eqb}
use Rattle.std.proofs.lemmas.Option.{same_Some}
use Rattle.std.proofs.lemmas.List.Elements.{All-cons}
use Rattle.std.proofs.lemmas.List.Filters.{length-filter_both}
use Rattle.std.proofs.lemmas.Map.Entries.{length-values_of}
use Rattle.list_core.specs.Members.{In}
use Rattle.list_core.proofs.Members.{In_map, In_filter, In_from_filter, filter_all}
use Rattle.ids_core.specs.declared.ids.Dot.{Dot}
use Rattle.ids_core.specs.Ids.{same_dot}
use Rattle.ids_core.specs.Same.{same_dot-true}
use Rattle.ids_core.specs.Orders.{dot_cmp}
use Rattle.vv_core.specs.declared.stamp.Stamp.{Stamp}
use Rattle.vv_core.specs.Vectors.{at}
use Rattle.op_log.specs.declared.logged.Logged.{Logged}
use Rattle.stamp_index.specs.declared.places.Place.{Place}
use Rattle.op_log.specs.Logs.{is_inside, within_of}
use Rattle.stamp_index.specs.Places.{place_of, has_place, is_reached, reached_of}
use Rattle.op_log.specs.Places.{IsPlaced}
use Rattle.op_log.specs.Tables.{Rises, IsKeyed, IsTable}
use Rattle.op_log.proofs.Items.{rises_one}
use Rattle.op_log.proofs.Numbers.{at_number, keyed_head, keyed_tail, found_at, lost_at}
use Rattle.op_log.proofs.Placed.{placed_less, fit_fewer}
use Rattle.stamp_index.proofs.PlaceOrders.{place_In, In_place}
use Rattle.op_log.proofs.Reaching.{reached_inside}

-- ---- lists

-- a filter by the values is one of the values
pub values_of-filter : {K X : Type 0} (p : X → Bool) (es : List (K × X)) → values_of (filter (λ e. p e.1) es) ≡ filter p (values_of es)
values_of-filter p [] = refl
values_of-filter {K} {X} p (e ∷ es) = go (p e.1) (values_of-filter p es)
  where
    go : (b : Bool) → values_of (filter (λ e. p e.1) es) ≡ filter p (values_of es) → values_of (cond b (e ∷ filter (λ e. p e.1) es) (filter (λ e. p e.1) es)) ≡ cond b (e.1 ∷ filter p (values_of es)) (filter p (values_of es))
    go true rest = ap (λ l. e.1 ∷ l) rest
    go false rest = rest

-- how many are not left
pub left_count : (w : List ℕ) (es fs : List (ℕ × Logged)) → fs ≡ filter (λ e. not (is_inside w e.1)) es → length es - length fs ≡ length (within_of w (values_of es))
left_count w es fs is =
    let both = length-filter_both (is_inside w) (λ x. not (is_inside w x)) (λ _. refl) (values_of es) in
    let all = length-values_of es in
    let left = sym (length-values_of fs) ∙ ap (λ l. length (values_of l)) is ∙ ap length (values_of-filter (λ x. not (is_inside w x)) es) in
    omega (arith, both, all, left)

-- they are no more than there were
pub left_few : (w : List ℕ) (es fs : List (ℕ × Logged)) → fs ≡ filter (λ e. not (is_inside w e.1)) es → length fs ≤ length es
left_few w es fs is = let both = length-filter_both (λ e. is_inside w e.1) (λ e. not (is_inside w e.1)) (λ _. refl) es in omega (arith, ap length is, both)

-- ---- one transaction less

module _ (n : ℕ) where
  -- what is left without the one of the number
  abbrev less : List (ℕ × Logged) → List (ℕ × Logged)
  less es = remove_entry (is_at (nat_cmp n)) es

  -- what is left was there
  less_In : (es : List (ℕ × Logged)) (y : Logged) → In y (values_of (less es)) → In y (values_of es)
  less_In [] y i = i
  less_In (e ∷ es) y i = go (is_at (nat_cmp n) e.0) i (λ j. less_In es y j)
    where
      go : (b : Bool) → In y (values_of (cond b es (e ∷ less es))) → (In y (values_of (less es)) → In y (values_of es)) → In y (e.1 ∷ values_of es)
      go true i rest = inr i
      go false (inl same) rest = inl same
      go false (inr i) rest = inr (rest i)

  keyed_less : (es : List (ℕ × Logged)) → IsKeyed es → IsKeyed (less es)
  keyed_less [] keyed = keyed
  keyed_less (e ∷ es) keyed = go (is_at (nat_cmp n) e.0) (keyed_less es (keyed_tail e es keyed))
    where
      go : (b : Bool) → IsKeyed (less es) → IsKeyed (cond b es (e ∷ less es))
      go true rest = keyed_tail e es keyed
      go false rest = All-cons (λ e. e.0 ≡ e.1.number) e (less es) (keyed_head e es keyed) rest

  rises_less : (es : List (ℕ × Logged)) → Rises (values_of es) → Rises (values_of (less es))
  rises_less [] rises = rises
  rises_less (e ∷ es) rises = go (is_at (nat_cmp n) e.0) (rises_less es rises.1)
    where
      go : (b : Bool) → Rises (values_of (less es)) → Rises (values_of (cond b es (e ∷ less es)))
      go true rest = rises.1
      go false rest = (λ y i. rises.0 y (less_In es y i), rest)

  -- what is left has another number
  from_less : (es : List (ℕ × Logged)) (y : Logged) → IsKeyed es → Rises (values_of es) → In y (values_of (less es)) → y.number ≢ n
  from_less [] y keyed rises i = absurd i
  from_less (e ∷ es) y keyed rises i = go (is_at (nat_cmp n) e.0) refl i (λ j. from_less es y (keyed_tail e es keyed) rises.1 j)
    where
      go : (b : Bool) → is_at (nat_cmp n) e.0 ≡ b → In y (values_of (cond b es (e ∷ less es))) → (In y (values_of (less es)) → y.number ≢ n) → y.number ≢ n
      go true here i rest = λ same.
          let number : e.1.number ≡ n = sym (keyed_head e es keyed) ∙ (Decides-eqb e.0 n).0 (sym (at_number n e.0) ∙ here) in
          let lt = rises.0 y i in
          omega (arith, number, lt, same)
      go false other (inl here) rest = λ same. false≢true (sym other ∙ at_number n e.0 ∙ (Decides-eqb e.0 n).1 (keyed_head e es keyed ∙ ap (λ (y : Logged). y.number) (sym here) ∙ same))
      go false other (inr i) rest = rest i

  -- and all others are left
  to_less : (es : List (ℕ × Logged)) (x y : Logged) → lookup (is_at (nat_cmp n)) es ≡ Some x → In y (values_of es) → (y ≡ x) ⊎ In y (values_of (less es))
  to_less [] x y is i = absurd i
  to_less (e ∷ es) x y is i = go (is_at (nat_cmp n) e.0) is i (λ is j. to_less es x y is j)
    where
      go : (b : Bool) → cond b (Some e.1) (lookup (is_at (nat_cmp n)) es) ≡ Some x → In y (e.1 ∷ values_of es) → (lookup (is_at (nat_cmp n)) es ≡ Some x → In y (values_of es) → (y ≡ x) ⊎ In y (values_of (less es))) → (y ≡ x) ⊎ In y (values_of (cond b es (e ∷ less es)))
      go true is (inl same) rest = inl (same ∙ same_Some e.1 x is)
      go true is (inr i) rest = inr i
      go false is (inl same) rest = inr (inl same)
      go false is (inr i) rest = ⊎_elim (λ same. inl same) (λ j. inr (inr j)) (rest is i)

  -- those that pass a test are left, where the one does not
  pub kept_less : (keep : Logged → Bool) (es : List (ℕ × Logged)) (x : Logged) → lookup (is_at (nat_cmp n)) es ≡ Some x → keep x ≡ false → filter (λ e. keep e.1) (less es) ≡ filter (λ e. keep e.1) es
  kept_less keep [] x is out = refl
  kept_less keep (e ∷ es) x is out = go (is_at (nat_cmp n) e.0) is (λ is. kept_less keep es x is out)
    where
      rest_of : List (ℕ × Logged)
      rest_of = filter (λ e. keep e.1) es

      go : (b : Bool) → cond b (Some e.1) (lookup (is_at (nat_cmp n)) es) ≡ Some x → (lookup (is_at (nat_cmp n)) es ≡ Some x → filter (λ e. keep e.1) (less es) ≡ rest_of) → filter (λ e. keep e.1) (cond b es (e ∷ less es)) ≡ cond (keep e.1) (e ∷ rest_of) rest_of
      go true is rest = sym (ap (λ b. cond b (e ∷ rest_of) rest_of) (ap keep (same_Some e.1 x is) ∙ out))
      go false is rest = ap (λ l. cond (keep e.1) (e ∷ l) l) (rest is)

  -- the tables without the transaction, its dot and its places
  pub table_less : (es : List (ℕ × Logged)) (ds gs : List (Dot × ℕ)) (ps qs : List Place) (x : Logged) → IsTable es ds ps → lookup (is_at (nat_cmp n)) es ≡ Some x → ((d : Dot) → same_dot x.tx.dot d ≡ false → lookup (is_at (dot_cmp d)) gs ≡ lookup (is_at (dot_cmp d)) ds) → ((p : Place) → p.number ≢ n → has_place qs p ≡ has_place ps p) → ((s : Stamp) → In s x.stamps → has_place qs (place_of n s) ≡ false) → ((p : Place) → has_place qs p ≡ true → has_place ps p ≡ true) → IsTable (less es) gs qs
  table_less es ds gs ps qs x table is names apart gone fewer = record {
    keyed = keyed_less es table.keyed;
    rises = rises_less es table.rises;
    names = λ y i. names y.tx.dot (other_dot y i) ∙ table.names y (less_In es y i);
    placed = placed_less ps qs (values_of es) (values_of (less es)) x
        (λ y i. (less_In es y i, subst (λ m. y.number ≢ m) (sym there.1) (from_less es y table.keyed table.rises i)))
        (λ y i. to_less es x y is i)
        (subst (λ m. (p : Place) → p.number ≢ m → has_place qs p ≡ has_place ps p) (sym there.1) apart)
        (subst (λ m. (s : Stamp) → In s x.stamps → has_place qs (place_of m s) ≡ false) (sym there.1) gone)
        fewer table.placed;
    fit = fit_fewer ps qs fewer table.fit;
  }
    where
      there : In x (values_of es) × (x.number ≡ n)
      there = found_at n es x table.keyed is

      other_dot : (y : Logged) → In y (values_of (less es)) → same_dot x.tx.dot y.tx.dot ≡ false
      other_dot y i = ⊎_elim
          (λ same. absurd (from_less es y table.keyed table.rises i (same_Some y.number x.number (sym (table.names y (less_In es y i)) ∙ ap (λ d. lookup (is_at (dot_cmp d)) ds) (sym (same_dot-true x.tx.dot y.tx.dot same)) ∙ table.names x there.0) ∙ there.1)))
          (λ other. other)
          (cases_Bool (same_dot x.tx.dot y.tx.dot))

-- a transaction of the log is found by its number
pub member_at : (n : ℕ) (es : List (ℕ × Logged)) (x : Logged) → IsKeyed es → Rises (values_of es) → In x (values_of es) → x.number ≡ n → lookup (is_at (nat_cmp n)) es ≡ Some x
member_at n es x keyed rises i same = by (lookup (is_at (nat_cmp n)) es) refl
  where
    by : (r : Option Logged) → lookup (is_at (nat_cmp n)) es ≡ r → r ≡ Some x
    by None is = absurd (lost_at n es x keyed is i same)
    by (Some y) is = let f = found_at n es y keyed is in ap Some (rises_one (values_of es) y x rises f.0 i (f.1 ∙ sym same))

-- ---- all of them

-- once none is reached, no transaction has a stamp within the vector
pub none_inside : (w : List ℕ) (items : List Logged) (places : List Place) → IsPlaced places items → ((centre : ℕ) → centre ≤ length w → (p : Place) → In p (reached_of w centre places) → ⊥) → (x : Logged) → In x items → is_inside w x ≡ false
none_inside w items places placed none x i = ⊎_elim
    (λ pass. let r = reached_inside w items places x placed i pass in absurd (none r.centre r.small r.place r.there))
    (λ out. out)
    (cases_Bool (is_inside w x))

-- what is reached of fewer places was reached
pub reached_fewer : (w : List ℕ) (centre : ℕ) (ps qs : List Place) (p : Place) → ((p : Place) → has_place qs p ≡ true → has_place ps p ≡ true) → In p (reached_of w centre qs) → In p (reached_of w centre ps)
reached_fewer w centre ps qs p fewer i =
    let f = In_from_filter (is_reached centre (at w centre)) qs p i in
    In_filter (is_reached centre (at w centre)) ps p (place_In ps p (fewer p (In_place qs p f.0))) f.1

-- so all are left
pub all_left : (w : List ℕ) (es : List (ℕ × Logged)) → ((x : Logged) → In x (values_of es) → is_inside w x ≡ false) → filter (λ e. not (is_inside w e.1)) es ≡ es
all_left w es none = filter_all (λ e. not (is_inside w e.1)) es (λ e i. ap not (none e.1 (In_map (λ e. e.1) es e i)))
