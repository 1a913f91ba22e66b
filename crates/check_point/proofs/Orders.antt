-- What another order of transactions keeps.
use Rattle.std.proofs.Common.{◌≡◌, ℕ, ◌==◌, cond, max, List, arith, refl, ap, ◌∙◌}
use Rattle.list_core.specs.Permutations.{Perm, Done, Skip, Swap, Then}
use Rattle.tx_core.specs.declared.tx.Tx.{Tx}
use Rattle.check_point.specs.Operations.{greatest}

-- the greatest number of a client is the same
pub greatest_order : (client : ℕ) (txs others : List Tx) → Perm txs others → greatest client txs ≡ greatest client others
greatest_order client _ _ Done = refl
greatest_order client _ _ (Skip tx txs others p) = ap (λ n. max (cond (tx.dot.client == client) tx.dot.number 0) n) (greatest_order client txs others p)
greatest_order client _ _ (Swap a b txs) =
    let first : ℕ = cond (a.dot.client == client) a.dot.number 0 in
    let second : ℕ = cond (b.dot.client == client) b.dot.number 0 in
    omega arith
greatest_order client _ _ (Then xs ys zs p q) = greatest_order client xs ys p ∙ greatest_order client ys zs q
