-- The identifiers of the operations of transactions.
use Rattle.std.proofs.Common.{◌≡◌, ℕ, ◌+◌, ◌≤◌, inl, inr, Bool, true, false, cond, List, [], ◌∷◌, sym, ap, ◌∙◌, arith}
use Rattle.std.specs.Prelude.{flat_map}
use Rattle.list_core.specs.Members.{In}
use Rattle.list_core.specs.Apart.{Apart}
use Rattle.list_core.proofs.Members.{In_from_flat_map}
use Rattle.ids_core.specs.declared.ids.Dot.{Dot}
use Rattle.ids_core.specs.declared.ids.Mark.{Mark}
use Rattle.ids_core.specs.declared.object.ObjectId.{ObjectId}
use Rattle.ids_core.specs.Ids.{same_object}
use Rattle.ids_core.specs.Kinds.{Distinct}
use Rattle.ids_core.proofs.Distinct.{distinct_append}
use Rattle.tx_core.specs.declared.op.Op.{Op}
use Rattle.tx_core.specs.declared.tx.Update.{Update}
use Rattle.tx_core.specs.declared.tx.Tx.{Tx}
use Rattle.tx_core.specs.Operations.{mark, ops_from, ops_of}

-- operations of updates that begin at a place have the transaction's dot, and that place or a later one
record IsFrom (dot : Dot) (place : ℕ) (op : Mark × Op) : Type 0 where
  dot_is : op.0.id.dot ≡ dot
  later : place ≤ op.0.id.place

from_place : (o : ObjectId) (rank : ℕ) (dot : Dot) (place : ℕ) (us : List Update) (op : Mark × Op) → In op (ops_from o rank dot place us) → IsFrom dot place op
from_place o rank dot place [] op i = absurd i
from_place o rank dot place (u ∷ us) op i = go (same_object u.object o) (λ j. let r = from_place o rank dot (place + 1) us op j in record { dot_is = r.dot_is; later = let le = r.later in omega (arith, le) }) i
  where
    go : (b : Bool) → (In op (ops_from o rank dot (place + 1) us) → IsFrom dot place op) → In op (cond b ((mark rank dot place, u.op) ∷ ops_from o rank dot (place + 1) us) (ops_from o rank dot (place + 1) us)) → IsFrom dot place op
    go true rest (inl e) = record { dot_is = ap (λ (op : Mark × Op). op.0.id.dot) e; later = omega (arith, ap (λ (op : Mark × Op). op.0.id.place) e) }
    go true rest (inr j) = rest j
    go false rest j = rest j

-- the operations of updates have different identifiers
pub distinct_from : (o : ObjectId) (rank : ℕ) (dot : Dot) (place : ℕ) (us : List Update) → Distinct (ops_from o rank dot place us)
distinct_from o rank dot place [] = tt
distinct_from o rank dot place (u ∷ us) = go (same_object u.object o) (distinct_from o rank dot (place + 1) us)
  where
    after : (other : Mark × Op) → In other (ops_from o rank dot (place + 1) us) → (mark rank dot place).id ≡ other.0.id → ⊥
    after other i same =
        let le = (from_place o rank dot (place + 1) us other i).later in
        let here : place ≡ other.0.id.place = ap (λ id. id.place) same in
        omega (arith, here, le)

    go : (b : Bool) → Distinct (ops_from o rank dot (place + 1) us) → Distinct (cond b ((mark rank dot place, u.op) ∷ ops_from o rank dot (place + 1) us) (ops_from o rank dot (place + 1) us))
    go true rest = (after, rest)
    go false rest = rest

-- the operations of transactions with different dots have different identifiers
pub distinct_ops : (o : ObjectId) (txs : List Tx) → Apart (λ (tx : Tx). tx.dot) txs → Distinct (flat_map (ops_of o) txs)
distinct_ops o [] apart = tt
distinct_ops o (tx ∷ txs) apart = distinct_append (ops_of o tx) (flat_map (ops_of o) txs) (distinct_from o tx.rank tx.dot 0 tx.updates) (distinct_ops o txs apart.1)
    (λ x y i j same.
    let r = In_from_flat_map (ops_of o) txs y j in
    apart.0 r.0 r.1 (sym (from_place o tx.rank tx.dot 0 tx.updates x i).dot_is ∙ (ap (λ id. id.dot) same ∙ (from_place o r.0.rank r.0.dot 0 r.0.updates y r.2).dot_is)))
