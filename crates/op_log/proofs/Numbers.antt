-- Transactions found by their numbers.
use Rattle.std.proofs.Common.{◌≡◌, ◌<◌, ℕ, Bool, true, false, cond, inl, inr, ⊎_elim, Option, Some, None, List, [], ◌∷◌, ◌++◌, refl, sym, ap, ◌∙◌, arith}
use Rattle.std.specs.Prelude.{◌||◌, ◌&&◌, ◌==◌, All}
use Rattle.std.specs.Ordering.{nat_cmp, match_ordering}
use Rattle.std.specs.Cmp.{nat_cmp_is}
use Rattle.std.specs.declared.cmp.Ordering.TheVariants.{Greater}
use Rattle.std.specs.Map.{lookup, set_value, values_of}
use Rattle.std.specs.BTreeMap.{is_at, insert_entry}
use Rattle.std.specs.List.{list_any}
use Rattle.std.proofs.Math.Bool.{or-false}
use Rattle.std.proofs.lemmas.Bool.{cases_Bool, false≢true, and_parts}
use Rattle.std.proofs.lemmas.Bool.Decides.{Decides-eqb, nat_tests}
use Rattle.std.proofs.lemmas.Option.{none-some, same_Some}
use Rattle.std.proofs.lemmas.List.Elements.{All-head, All-tail, All-cons}
use Rattle.list_core.specs.Members.{In}
use Rattle.ids_core.specs.declared.ids.Dot.{Dot}
use Rattle.ids_core.specs.Ids.{same_dot}
use Rattle.vv_core.specs.declared.stamp.Stamp.{Stamp}
use Rattle.op_log.specs.declared.logged.Logged.{Logged}
use Rattle.op_log.specs.Logs.{has_dot, with_one, stamped, with_stamp}
use Rattle.op_log.specs.Tables.{Rises, IsKeyed}
use Rattle.stamp_index.proofs.Finds.{finds_none}
use Rattle.op_log.proofs.Items.{stamps_none}

-- ---- keys

-- the test of a key is that of the number
pub at_number : (n k : ℕ) → is_at (nat_cmp n) k ≡ (k == n)
at_number n k = grind (arith, nat_tests)

-- a key above all others goes to the end
pub insert_last : (es : List (ℕ × Logged)) (n : ℕ) (x : Logged) → All (λ e. e.0 < n) es → insert_entry nat_cmp es n x ≡ es ++ (n, x) ∷ []
insert_last [] n x below = refl
insert_last (e ∷ es) n x below =
    let here : e.0 < n = All-head (λ e. e.0 < n) e es below in
    let rest = insert_last es n x (All-tail (λ e. e.0 < n) e es below) in
    ap (λ r. match_ordering r ((n, x) ∷ (e ∷ es)) ((e.0, x) ∷ es) (e ∷ insert_entry nat_cmp es n x)) (sym (nat_cmp_is n e.0 Greater here)) ∙ ap (λ l. e ∷ l) rest

-- the number of an entry
pub keyed_head : (e : ℕ × Logged) (es : List (ℕ × Logged)) → IsKeyed (e ∷ es) → e.0 ≡ e.1.number
keyed_head e es keyed = All-head (λ e. e.0 ≡ e.1.number) e es keyed

pub keyed_tail : (e : ℕ × Logged) (es : List (ℕ × Logged)) → IsKeyed (e ∷ es) → IsKeyed es
keyed_tail e es keyed = All-tail (λ e. e.0 ≡ e.1.number) e es keyed

-- what is found at a number is a member with that number
pub found_at : (n : ℕ) (es : List (ℕ × Logged)) (x : Logged) → IsKeyed es → lookup (is_at (nat_cmp n)) es ≡ Some x → In x (values_of es) × (x.number ≡ n)
found_at n [] x keyed is = absurd (none-some x is)
found_at n (e ∷ es) x keyed is = go (is_at (nat_cmp n) e.0) refl is (λ is. found_at n es x (keyed_tail e es keyed) is)
  where
    go : (b : Bool) → is_at (nat_cmp n) e.0 ≡ b → cond b (Some e.1) (lookup (is_at (nat_cmp n)) es) ≡ Some x → (lookup (is_at (nat_cmp n)) es ≡ Some x → In x (values_of es) × (x.number ≡ n)) → In x (values_of (e ∷ es)) × (x.number ≡ n)
    go true at is rest =
        let same = same_Some e.1 x is in
        (inl (sym same), ap (λ y. y.number) (sym same) ∙ sym (keyed_head e es keyed) ∙ (Decides-eqb e.0 n).0 (sym (at_number n e.0) ∙ at))
    go false at is rest = let r = rest is in (inr r.0, r.1)

-- where nothing is found, no member has the number
pub lost_at : (n : ℕ) (es : List (ℕ × Logged)) (x : Logged) → IsKeyed es → lookup (is_at (nat_cmp n)) es ≡ None → In x (values_of es) → x.number ≡ n → ⊥
lost_at n [] x keyed is i same = absurd i
lost_at n (e ∷ es) x keyed is i same = go (is_at (nat_cmp n) e.0) refl is i (λ is j. lost_at n es x (keyed_tail e es keyed) is j same)
  where
    go : (b : Bool) → is_at (nat_cmp n) e.0 ≡ b → cond b (Some e.1) (lookup (is_at (nat_cmp n)) es) ≡ None → In x (values_of (e ∷ es)) → (lookup (is_at (nat_cmp n)) es ≡ None → In x (values_of es) → ⊥) → ⊥
    go true at is j rest = none-some e.1 (sym is)
    go false at is (inl here) rest = false≢true (sym at ∙ at_number n e.0 ∙ (Decides-eqb e.0 n).1 (keyed_head e es keyed ∙ ap (λ y. y.number) (sym here) ∙ same))
    go false at is (inr j) rest = rest is j

-- a value written at a number keeps the numbers
pub keyed_set : (n : ℕ) (es : List (ℕ × Logged)) (v : Logged) → IsKeyed es → v.number ≡ n → IsKeyed (set_value (is_at (nat_cmp n)) es v)
keyed_set n [] v keyed same = keyed
keyed_set n (e ∷ es) v keyed same = go (is_at (nat_cmp n) e.0) refl (keyed_set n es v (keyed_tail e es keyed) same)
  where
    go : (b : Bool) → is_at (nat_cmp n) e.0 ≡ b → IsKeyed (set_value (is_at (nat_cmp n)) es v) → IsKeyed (cond b ((e.0, v) ∷ es) (e ∷ set_value (is_at (nat_cmp n)) es v))
    go true at rest = All-cons (λ e. e.0 ≡ e.1.number) (e.0, v) es ((Decides-eqb e.0 n).0 (sym (at_number n e.0) ∙ at) ∙ sym same) (keyed_tail e es keyed)
    go false at rest = All-cons (λ e. e.0 ≡ e.1.number) e (set_value (is_at (nat_cmp n)) es v) (keyed_head e es keyed) rest

-- ---- what is asked of a number

-- whether what is found passes
abbrev passes_found : (Logged → Bool) → Option Logged → Bool
passes_found p None = false
passes_found p (Some x) = p x

module _ (p : Logged → Bool) (n : ℕ) where
  -- whether the transaction of the number passes
  abbrev passes_at : List Logged → Bool
  passes_at items = list_any (λ x. (x.number == n) && p x) items

  -- it is what is found
  found_passes : (es : List (ℕ × Logged)) → IsKeyed es → Rises (values_of es) → passes_at (values_of es) ≡ passes_found p (lookup (is_at (nat_cmp n)) es)
  found_passes [] keyed rises = refl
  found_passes (e ∷ es) keyed rises = go (is_at (nat_cmp n) e.0) refl (found_passes es (keyed_tail e es keyed) rises.1)
    where
      number : (e.1.number == n) ≡ is_at (nat_cmp n) e.0
      number = ap (λ k. k == n) (sym (keyed_head e es keyed)) ∙ sym (at_number n e.0)

      none : e.1.number ≡ n → passes_at (values_of es) ≡ false
      none same = finds_none (λ x. (x.number == n) && p x) (values_of es) (λ x i is. omega (arith, rises.0 x i, (Decides-eqb x.number n).0 (and_parts (x.number == n) (p x) is).0, same))

      go : (b : Bool) → is_at (nat_cmp n) e.0 ≡ b → passes_at (values_of es) ≡ passes_found p (lookup (is_at (nat_cmp n)) es) → (((e.1.number == n) && p e.1) || passes_at (values_of es)) ≡ passes_found p (cond b (Some e.1) (lookup (is_at (nat_cmp n)) es))
      go true at rest = ap (λ b. (b && p e.1) || passes_at (values_of es)) (number ∙ at) ∙ ap (λ b. p e.1 || b) (none ((Decides-eqb e.1.number n).0 (number ∙ at))) ∙ or-false (p e.1)
      go false at rest = ap (λ b. (b && p e.1) || passes_at (values_of es)) (number ∙ at) ∙ rest

  pub passes_some : (es : List (ℕ × Logged)) (x : Logged) → IsKeyed es → Rises (values_of es) → lookup (is_at (nat_cmp n)) es ≡ Some x → p x ≡ passes_at (values_of es)
  passes_some es x keyed rises is = ap (passes_found p) (sym is) ∙ sym (found_passes es keyed rises)

  pub passes_none : (es : List (ℕ × Logged)) → IsKeyed es → Rises (values_of es) → lookup (is_at (nat_cmp n)) es ≡ None → false ≡ passes_at (values_of es)
  passes_none es keyed rises is = ap (passes_found p) (sym is) ∙ sym (found_passes es keyed rises)

-- ---- a stamp more at a number

-- all transactions with the dot have the number
abbrev pub OnlyAt : Dot → ℕ → List Logged → Type 0
OnlyAt d n items = (x : Logged) → In x items → same_dot x.tx.dot d ≡ true → x.number ≡ n

module _ (d : Dot) (n : ℕ) where
  -- none behind the number has the dot
  none_behind : (items : List Logged) (y : Logged) → ((x : Logged) → In x items → y.number < x.number) → y.number ≡ n → OnlyAt d n items → (x : Logged) → In x items → same_dot x.tx.dot d ≡ true → ⊥
  none_behind items y above is only x i same = omega (arith, above x i, only x i same, is)

  pub has_dot_some : (es : List (ℕ × Logged)) (x : Logged) → IsKeyed es → Rises (values_of es) → OnlyAt d n (values_of es) → lookup (is_at (nat_cmp n)) es ≡ Some x → same_dot x.tx.dot d ≡ has_dot d (values_of es)
  has_dot_some [] x keyed rises only is = absurd (none-some x is)
  has_dot_some (e ∷ es) x keyed rises only is = go (is_at (nat_cmp n) e.0) refl is (λ is. has_dot_some es x (keyed_tail e es keyed) rises.1 (λ x i. only x (inr i)) is)
    where
      go : (b : Bool) → is_at (nat_cmp n) e.0 ≡ b → cond b (Some e.1) (lookup (is_at (nat_cmp n)) es) ≡ Some x → (lookup (is_at (nat_cmp n)) es ≡ Some x → same_dot x.tx.dot d ≡ has_dot d (values_of es)) → same_dot x.tx.dot d ≡ (same_dot e.1.tx.dot d || has_dot d (values_of es))
      go true at is rest =
          let number : e.1.number ≡ n = sym (keyed_head e es keyed) ∙ (Decides-eqb e.0 n).0 (sym (at_number n e.0) ∙ at) in
          ap (λ y. same_dot y.tx.dot d) (sym (same_Some e.1 x is))
          ∙ sym (ap (λ b. same_dot e.1.tx.dot d || b) (finds_none (λ x. same_dot x.tx.dot d) (values_of es) (none_behind (values_of es) e.1 rises.0 number (λ x i. only x (inr i)))) ∙ or-false (same_dot e.1.tx.dot d))
      go false at is rest =
          rest is
          ∙ ap (λ b. b || has_dot d (values_of es)) (sym (⊎_elim (λ same. absurd (false≢true (sym at ∙ at_number n e.0 ∙ (Decides-eqb e.0 n).1 (keyed_head e es keyed ∙ only e.1 (inl refl) same)))) (λ apart. apart) (cases_Bool (same_dot e.1.tx.dot d))))

  -- where nothing is found, none has the dot
  none_with_dot : (es : List (ℕ × Logged)) → IsKeyed es → OnlyAt d n (values_of es) → lookup (is_at (nat_cmp n)) es ≡ None → (x : Logged) → In x (values_of es) → same_dot x.tx.dot d ≡ true → ⊥
  none_with_dot es keyed only is x i same = lost_at n es x keyed is i (only x i same)

  pub has_dot_none : (es : List (ℕ × Logged)) → IsKeyed es → OnlyAt d n (values_of es) → lookup (is_at (nat_cmp n)) es ≡ None → false ≡ has_dot d (values_of es)
  has_dot_none es keyed only is = sym (finds_none (λ x. same_dot x.tx.dot d) (values_of es) (none_with_dot es keyed only is))

module _ (d : Dot) (s : Stamp) (n : ℕ) where
  -- the one that has it gets the stamp
  pub stamped_some : (es : List (ℕ × Logged)) (x : Logged) → IsKeyed es → Rises (values_of es) → OnlyAt d n (values_of es) → lookup (is_at (nat_cmp n)) es ≡ Some x → values_of (set_value (is_at (nat_cmp n)) es (stamped d s x)) ≡ with_stamp d s (values_of es)
  stamped_some [] x keyed rises only is = absurd (none-some x is)
  stamped_some (e ∷ es) x keyed rises only is = go (is_at (nat_cmp n) e.0) refl is (λ is. stamped_some es x (keyed_tail e es keyed) rises.1 (λ x i. only x (inr i)) is)
    where
      go : (b : Bool) → is_at (nat_cmp n) e.0 ≡ b → cond b (Some e.1) (lookup (is_at (nat_cmp n)) es) ≡ Some x → (lookup (is_at (nat_cmp n)) es ≡ Some x → values_of (set_value (is_at (nat_cmp n)) es (stamped d s x)) ≡ with_stamp d s (values_of es)) → values_of (cond b ((e.0, stamped d s x) ∷ es) (e ∷ set_value (is_at (nat_cmp n)) es (stamped d s x))) ≡ stamped d s e.1 ∷ with_stamp d s (values_of es)
      go true at is rest =
          let number : e.1.number ≡ n = sym (keyed_head e es keyed) ∙ (Decides-eqb e.0 n).0 (sym (at_number n e.0) ∙ at) in
          ap (λ y. stamped d s y ∷ values_of es) (sym (same_Some e.1 x is))
          ∙ ap (λ l. stamped d s e.1 ∷ l) (sym (stamps_none d s (values_of es) (none_behind d n (values_of es) e.1 rises.0 number (λ x i. only x (inr i)))))
      go false at is rest =
          ap (λ y. y ∷ values_of (set_value (is_at (nat_cmp n)) es (stamped d s x))) (sym (ap (λ b. cond b (with_one s e.1) e.1) (⊎_elim (λ same. absurd (false≢true (sym at ∙ at_number n e.0 ∙ (Decides-eqb e.0 n).1 (keyed_head e es keyed ∙ only e.1 (inl refl) same)))) (λ apart. apart) (cases_Bool (same_dot e.1.tx.dot d)))))
          ∙ ap (λ l. stamped d s e.1 ∷ l) (rest is)

  pub stamped_none : (es : List (ℕ × Logged)) → IsKeyed es → OnlyAt d n (values_of es) → lookup (is_at (nat_cmp n)) es ≡ None → values_of es ≡ with_stamp d s (values_of es)
  stamped_none es keyed only is = sym (stamps_none d s (values_of es) (none_with_dot d n es keyed only is))
