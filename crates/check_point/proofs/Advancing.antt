-- A point that goes on stands for more transactions.
use Rattle.std.proofs.Common.{◌≡◌, ℕ, ◌+◌, ◌==◌, Bool, true, false, ◌||◌, cond, max, List, [], ◌∷◌, ◌++◌, length, arith, refl, sym, ap, ◌∙◌}
use Rattle.std.specs.Prelude.{flat_map, Option, Some, None, is_some}
use Rattle.std.specs.Map.{lookup}
use Rattle.std.specs.Option.{option_or}
use Rattle.std.proofs.lemmas.List.{length-append}
use Rattle.std.proofs.lemmas.List.Sums.{fold-append}
use Rattle.std.proofs.lemmas.Grind.{flat_map-append}
use Rattle.std.proofs.lemmas.List.Folds.{list_any-append}
use Rattle.ids_core.specs.declared.object.ObjectId.{ObjectId}
use Rattle.ids_core.specs.Ids.{same_object}
use Rattle.tx_core.specs.declared.tx.Tx.{Tx}
use Rattle.tx_core.specs.States.{empty_of, fold_of, step}
use Rattle.tx_core.specs.Operations.{ops_of}
use Rattle.check_point.specs.Operations.{state_after, greatest, touches, is_touched}
use Rattle.check_point.specs.Points.{PointView, StateEntries, IsPointOf, has_state, state_of, number_of}

-- the state after more transactions is folded from the one before
pub state_after-append : (o : ObjectId) (txs more : List Tx) → state_after o (txs ++ more) ≡ fold_of (state_after o txs) (flat_map (ops_of o) more)
state_after-append o txs more = ap (fold_of (empty_of o.sort)) (flat_map-append (ops_of o) txs more) ∙ fold-append step (empty_of o.sort) (flat_map (ops_of o) txs) (flat_map (ops_of o) more)

-- the greatest number among more transactions is the greater one
pub greatest-append : (client : ℕ) (txs more : List Tx) → greatest client (txs ++ more) ≡ max (greatest client txs) (greatest client more)
greatest-append client [] more = omega arith
greatest-append client (tx ∷ txs) more =
    let rest = greatest-append client txs more in
    let own : ℕ = cond (tx.dot.client == client) tx.dot.number 0 in
    ap (λ n. max own n) rest ∙ omega arith

-- tests the other way round
or_swap : (a b : Bool) → (a || b) ≡ (b || a)
or_swap true true = refl
or_swap true false = refl
or_swap false true = refl
or_swap false false = refl

-- either has something
or_some : {X : Type 0} (r s : Option X) → is_some (option_or r s) ≡ (is_some r || is_some s)
or_some None s = refl
or_some (Some x) s = refl

-- which objects have a state once changed entries were put over others
pub put_known : (after changed into before : StateEntries) (o : ObjectId) (touched : Bool) → lookup (same_object o) after ≡ option_or (lookup (same_object o) changed) (lookup (same_object o) into) → into ≡ before → has_state changed o ≡ touched → has_state after o ≡ (touched || has_state before o)
put_known after changed into before o touched is same known = ap is_some is ∙ (or_some (lookup (same_object o) changed) (lookup (same_object o) into) ∙ (λ i. known i || has_state (same i) o))

-- what stood for some transactions stands for them and those that were folded
pub given_more : (before after : PointView) (given txs : List Tx) → IsPointOf before given → ((o : ObjectId) → state_of after o ≡ fold_of (state_of before o) (flat_map (ops_of o) txs)) → ((client : ℕ) → number_of after client ≡ max (greatest client txs) (number_of before client)) → after.folded ≡ before.folded + length txs → ((o : ObjectId) → has_state after.states o ≡ (is_touched o txs || has_state before.states o)) → IsPointOf after (given ++ txs)
given_more before after given txs is states numbers folded known = record {
  states = λ o. states o ∙ (ap (λ s. fold_of s (flat_map (ops_of o) txs)) (is.states o) ∙ sym (state_after-append o given txs));
  numbers = λ client.
      let raised = numbers client in
      let had = is.numbers client in
      let both = greatest-append client given txs in
      omega arith;
  folded = let count = is.folded in let both = length-append given txs in omega (arith, count, both, folded);
  known = λ o. known o ∙ (ap (λ b. is_touched o txs || b) (is.known o) ∙ (or_swap (is_touched o txs) (is_touched o given) ∙ sym (list_any-append (touches o) given txs)));
}
