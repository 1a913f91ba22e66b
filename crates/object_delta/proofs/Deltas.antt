-- The operations on an object that came between two vectors, by the records and by a log.
use Rattle.std.proofs.Common.{◌≡◌, ℕ, Bool, true, false, cond, ◌&&◌, List, [], ◌∷◌, map, refl, sym, ap, ◌∙◌}
use Rattle.std.specs.Prelude.{filter, flat_map, not}
use Rattle.std.proofs.Math.Bool.{and-false}
use Rattle.std.proofs.lemmas.Bool.{false≢true, false_from_ne_true}
use Rattle.std.proofs.lemmas.List.Folds.{flat_map-map}
use Rattle.list_core.specs.Members.{In}
use Rattle.list_core.proofs.Members.{In_from_filter, filter-agree}
use Rattle.list_core.proofs.Images.{filter-map}
use Rattle.ids_core.specs.declared.object.ObjectId.{ObjectId}
use Rattle.vv_core.specs.Vectors.{Covers}
use Rattle.tx_core.specs.declared.tx.Tx.{Tx}
use Rattle.tx_core.specs.declared.tx.Record.{Record}
use Rattle.tx_core.specs.Operations.{ops_of}
use Rattle.dc_talk.specs.Records.{firsts}
use Rattle.dc_talk.specs.Objects.{ops_since}
use Rattle.op_log.specs.declared.logged.Logged.{Logged}
use Rattle.op_log.specs.Logs as log
use Rattle.op_log.proofs.Cells.{chain_passing}
use Rattle.check_point.specs.Points.{PointView}
use Rattle.point_log.specs.Splits.{first_txs, is_inside}
use Rattle.point_log.specs.LogSplits.{txs_of, ops_in, rest_txs, IsLogSplit}
use Rattle.point_log.specs.StandFor.{StandFor}
use Rattle.point_log.proofs.Inside.{inside_grows}
use Rattle.point_log.proofs.Chains.{number_inside, chain_ops}
use Rattle.point_log.proofs.LogSplits.{inside_both}
use Rattle.object_delta.specs.Deltas.{ops_told}

-- ---- tests on a list

-- a test after one that passes more
filter_within : {X : Type 0} (p q : X → Bool) (xs : List X) → ((x : X) → q x ≡ false → p x ≡ false) → filter p (filter q xs) ≡ filter p xs
filter_within p q [] less = refl
filter_within {X} p q (x ∷ xs) less = go (q x) refl (p x) refl (filter_within p q xs less)
  where
    go : (b : Bool) → q x ≡ b → (c : Bool) → p x ≡ c → filter p (filter q xs) ≡ filter p xs → filter p (cond b (x ∷ filter q xs) (filter q xs)) ≡ cond c (x ∷ filter p xs) (filter p xs)
    go true is c own rest = ap (λ d. cond d (x ∷ filter p (filter q xs)) (filter p (filter q xs))) own ∙ ap (λ l. cond c (x ∷ l) l) rest
    go false is true own rest = absurd (false≢true (sym (less x is) ∙ own))
    go false is false own rest = rest

-- what is not denied is so
inside_from : (b : Bool) → not b ≡ false → b ≡ true
inside_from true is = refl
inside_from false is = absurd (false≢true (sym is))

-- ---- by the records

-- whether the transaction came between the two vectors
abbrev came : List Record → List ℕ → List ℕ → Tx → Bool
came A before w tx = is_inside A w tx && not (is_inside A before tx)

module _ (A : List Record) (before w : List ℕ) (o : ObjectId) where
  -- the operations of the transactions that came between
  came_ops : flat_map (ops_of o) (filter (came A before w) (first_txs A)) ≡ ops_since o A before w
  came_ops = ap (flat_map (ops_of o)) (filter-map (came A before w) (λ (r : Record). r.tx) (firsts A)) ∙ flat_map-map (ops_of o) (λ (r : Record). r.tx) (filter (λ r. came A before w r.tx) (firsts A))

-- ---- by a log

module _ (A : List Record) (base : List ℕ) (folded : List Tx) (kept : log.LogView) (in_log : IsLogSplit A base folded kept) (before w : List ℕ) (o : ObjectId) where
  -- whether a transaction of the log came between the two vectors
  abbrev came_there : Logged → Bool
  came_there x = log.is_inside w x && not (log.is_inside before x)

  -- by its number, by its stamps and by the records it is the same
  by_number : (x : Logged) → In x kept.items → (log.is_inside_at w x.number kept.items && not (log.is_inside_at before x.number kept.items)) ≡ came_there x
  by_number x i = λ k. number_inside w kept.items x in_log.apart i k && not (number_inside before kept.items x in_log.apart i k)

  by_records : (x : Logged) → In x kept.items → came_there x ≡ came A before w x.tx
  by_records x i = λ k. inside_both A base folded kept in_log x i w k && not (inside_both A base folded kept in_log x i before k)

  -- what is within the base came not between, where the vector before covers the base
  none_came : Covers before base → (tx : Tx) → not (is_inside A base tx) ≡ false → came A before w tx ≡ false
  none_came covers tx is = ap (λ b. is_inside A w tx && not b) (inside_grows A before base tx.dot covers (inside_from (is_inside A base tx) is)) ∙ and-false (is_inside A w tx)

  -- the operations that a log tells are those of the records
  told_since : Covers before base → ops_told kept o before w ≡ ops_since o A before w
  told_since covers =
      ap ops_in (chain_passing (λ number. log.is_inside_at w number kept.items && not (log.is_inside_at before number kept.items)) came_there o kept.items by_number)
      ∙ chain_ops o (filter came_there kept.items)
      ∙ ap (λ l. flat_map (ops_of o) (txs_of l)) (filter-agree came_there (λ x. came A before w x.tx) kept.items by_records)
      ∙ ap (flat_map (ops_of o)) (sym (filter-map (came A before w) (λ (x : Logged). x.tx) kept.items))
      ∙ ap (λ l. flat_map (ops_of o) (filter (came A before w) l)) in_log.order
      ∙ ap (flat_map (ops_of o)) (filter_within (came A before w) (λ tx. not (is_inside A base tx)) (first_txs A) (none_came covers))
      ∙ came_ops A before w o

-- the operations that a log tells, which stands beside a point for the records
pub told_stands : (A : List Record) (point : PointView) (kept : log.LogView) (s : StandFor A point kept) (before w : List ℕ) (o : ObjectId) → Covers before point.vector → ops_told kept o before w ≡ ops_since o A before w
told_stands A point kept s before w o covers = told_since A point.vector s.folded kept s.in_log before w o covers
