-- What those that are kept give over what the folded ones gave.
use Rattle.std.proofs.Common.{◌≡◌, ℕ, ◌+◌, Bool, max, List, ◌++◌, length, sym, ap, subst, ◌∙◌}
use Rattle.std.specs.Prelude.{filter, flat_map}
use Rattle.std.proofs.lemmas.List.{length-append}
use Rattle.std.proofs.lemmas.List.Elements.{filter-append}
use Rattle.list_core.specs.Permutations.{Perm}
use Rattle.list_core.proofs.Members.{filter_all}
use Rattle.list_core.proofs.Permutations.{filter_order, length_order}
use Rattle.list_core.proofs.Apart.{apart_filter}
use Rattle.list_core.proofs.Blocks.{flat_order, turned_order}
use Rattle.ids_core.specs.declared.object.ObjectId.{ObjectId}
use Rattle.tx_core.specs.declared.tx.Tx.{Tx}
use Rattle.tx_core.specs.States.{empty_of, fold_of}
use Rattle.tx_core.proofs.Folds.{fold_of-order}
use Rattle.tx_core.proofs.Operations.{distinct_ops}
use Rattle.tx_core.specs.Operations.{ops_of}
use Rattle.check_point.specs.Operations.{state_after, greatest}
use Rattle.check_point.specs.Partings.{IsParting}
use Rattle.check_point.proofs.Orders.{greatest_order}
use Rattle.check_point.proofs.Advancing.{state_after-append, greatest-append}

module _ (test : Tx → Bool) (txs folded kept : List Tx) (p : IsParting test txs folded kept) where
  -- the folded ones and those of the kept that pass are all that pass, in another order
  in_order : Perm (folded ++ filter test kept) (filter test txs)
  in_order = subst (λ l. Perm l (filter test txs)) (filter-append test folded kept ∙ ap (λ l. l ++ filter test kept) (filter_all test folded p.passed)) (filter_order test (folded ++ kept) txs p.whole)

  pub state_of_parting : (o : ObjectId) → fold_of (state_after o folded) (flat_map (ops_of o) (filter test kept)) ≡ state_after o (filter test txs)
  state_of_parting o =
      sym (state_after-append o folded (filter test kept))
      ∙ sym (fold_of-order (empty_of o.sort) (flat_map (ops_of o) (filter test txs)) (flat_map (ops_of o) (folded ++ filter test kept))
      (flat_order (ops_of o) (filter test txs) (folded ++ filter test kept) (turned_order _ _ in_order))
      (distinct_ops o (filter test txs) (apart_filter (λ (tx : Tx). tx.dot) test txs p.apart)))

  pub number_of_parting : (client : ℕ) → max (greatest client folded) (greatest client (filter test kept)) ≡ greatest client (filter test txs)
  number_of_parting client = sym (greatest-append client folded (filter test kept)) ∙ greatest_order client (folded ++ filter test kept) (filter test txs) in_order

  pub count_of_parting : length folded + length (filter test kept) ≡ length (filter test txs)
  count_of_parting = sym (length-append folded (filter test kept)) ∙ length_order (folded ++ filter test kept) (filter test txs) in_order
