-- The chain of an object, and those of its operations whose transaction is inside a vector.
use Rattle.std.proofs.Common.{◌≡◌, ℕ, Bool, true, false, cond, max, ◌||◌, ◌&&◌, inl, inr, List, [], ◌∷◌, ◌++◌, map, refl, sym, ap, subst, ◌∙◌, arith}
use Rattle.std.specs.Prelude.{filter, flat_map, ◌==◌}
use Rattle.std.proofs.Math.Bool.{or-false, and-true, and-false}
use Rattle.std.proofs.lemmas.Bool.{eqb-true, eq-eqb, false_from_ne_true}
use Rattle.std.proofs.lemmas.List.{map-append}
use Rattle.list_core.specs.Members.{In}
use Rattle.list_core.specs.Apart.{Apart}
use Rattle.ids_core.specs.declared.ids.Mark.{Mark}
use Rattle.ids_core.specs.declared.object.ObjectId.{ObjectId}
use Rattle.tx_core.specs.declared.op.Op.{Op}
use Rattle.tx_core.specs.Operations.{ops_of}
use Rattle.op_log.specs.declared.chains.Cell.{Cell}
use Rattle.op_log.specs.declared.logged.Logged.{Logged}
use Rattle.op_log.specs.Logs.{cell, cells_of, chain_of, is_inside, is_inside_at, mine_in}
use Rattle.op_log.proofs.Cells.{chain_passing}
use Rattle.check_point.specs.Operations.{greatest}
use Rattle.point_log.specs.LogSplits.{txs_of, ops_in}

-- ---- the operations of a chain

-- those of one transaction
cells_ops : (number : ℕ) (ops : List (Mark × Op)) → ops_in (map (cell number) ops) ≡ ops
cells_ops number [] = refl
cells_ops number (m ∷ ops) = ap (λ l. m ∷ l) (cells_ops number ops)

-- those of all are the operations of the transactions
pub chain_ops : (o : ObjectId) (items : List Logged) → ops_in (chain_of o items) ≡ flat_map (ops_of o) (txs_of items)
chain_ops o [] = refl
chain_ops o (x ∷ items) = map-append (λ (c : Cell). (c.mark, c.op)) (cells_of o x) (chain_of o items) ∙ (ap (λ l. l ++ ops_in (chain_of o items)) (cells_ops x.number (ops_of o x.tx)) ∙ ap (λ l. ops_of o x.tx ++ l) (chain_ops o items))

-- ---- those inside a vector

module _ (w : List ℕ) where
  -- a number that no transaction has is not inside
  none_inside : (items : List Logged) (number : ℕ) → ((x : Logged) → In x items → number ≡ x.number → ⊥) → is_inside_at w number items ≡ false
  none_inside [] number apart = refl
  none_inside (x ∷ items) number apart =
      let other : (x.number == number) ≡ false = false_from_ne_true (x.number == number) (λ same. apart x (inl refl) (sym (eqb-true x.number number same))) in
      ap (λ b. (b && is_inside w x) || is_inside_at w number items) other ∙ none_inside items number (λ y i. apart y (inr i))

  -- that of a transaction in the log is inside where one of its stamps is
  pub number_inside : (items : List Logged) (x : Logged) → Apart (λ (x : Logged). x.number) items → In x items → is_inside_at w x.number items ≡ is_inside w x
  number_inside [] x apart i = absurd i
  number_inside (y ∷ items) x apart (inl same) = subst (λ y. is_inside_at w x.number (y ∷ items) ≡ is_inside w x) same (go (is_inside w x) (none_inside items x.number (subst (λ (y : Logged). (z : Logged) → In z items → y.number ≡ z.number → ⊥) (sym same) apart.0)))
    where
      itself : (x.number == x.number) ≡ true
      itself = eq-eqb x.number x.number refl

      go : (b : Bool) → is_inside_at w x.number items ≡ false → (((x.number == x.number) && b) || is_inside_at w x.number items) ≡ b
      go b none = ap (λ t. (t && b) || is_inside_at w x.number items) itself ∙ (ap (λ l. b || l) none ∙ or-false b)
  number_inside (y ∷ items) x apart (inr i) =
      let other : (y.number == x.number) ≡ false = false_from_ne_true (y.number == x.number) (λ same. apart.0 x i (eqb-true y.number x.number same)) in
      ap (λ b. (b && is_inside w y) || is_inside_at w x.number items) other ∙ number_inside items x apart.1 i

  -- the operations of a chain whose transaction is inside are those of the transactions that are
  pub chain_inside : (o : ObjectId) (items : List Logged) → Apart (λ (x : Logged). x.number) items → ops_in (filter (λ c. is_inside_at w c.tx items) (chain_of o items)) ≡ flat_map (ops_of o) (txs_of (filter (is_inside w) items))
  chain_inside o items apart = ap ops_in (chain_passing (λ number. is_inside_at w number items) (is_inside w) o items (λ x i. number_inside items x apart i)) ∙ chain_ops o (filter (is_inside w) items)

  -- the greatest number inside is that of the transactions that are
  pub mine_inside : (client : ℕ) (items : List Logged) → greatest client (txs_of (filter (is_inside w) items)) ≡ mine_in client w items
  mine_inside client [] = refl
  mine_inside client (x ∷ items) = at (is_inside w x) (mine_inside client items)
    where
      at : (in_it : Bool) → greatest client (txs_of (filter (is_inside w) items)) ≡ mine_in client w items → greatest client (txs_of (cond in_it (x ∷ filter (is_inside w) items) (filter (is_inside w) items))) ≡ max (cond ((x.tx.dot.client == client) && in_it) x.tx.dot.number 0) (mine_in client w items)
      at true rest = ap (λ n. max (cond (x.tx.dot.client == client) x.tx.dot.number 0) n) rest ∙ ap (λ b. max (cond b x.tx.dot.number 0) (mine_in client w items)) (sym (and-true (x.tx.dot.client == client)))
      at false rest =
          let none : max (cond false x.tx.dot.number 0) (mine_in client w items) ≡ mine_in client w items = omega arith in
          rest ∙ (sym none ∙ ap (λ b. max (cond b x.tx.dot.number 0) (mine_in client w items)) (sym (and-false (x.tx.dot.client == client))))
