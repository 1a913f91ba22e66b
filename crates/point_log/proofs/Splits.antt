-- What a split tells at a vector.
use Rattle.std.proofs.Common.{◌≡◌, ℕ, ◌+◌, max, List, [], length, ◌∙◌}
use Rattle.std.specs.Prelude.{filter, flat_map}
use Rattle.list_core.proofs.Apart.{apart_map}
use Rattle.ids_core.specs.declared.object.ObjectId.{ObjectId}
use Rattle.vv_core.specs.Vectors.{Covers}
use Rattle.tx_core.specs.declared.tx.Tx.{Tx}
use Rattle.tx_core.specs.declared.tx.Record.{Record}
use Rattle.tx_core.specs.States.{fold_of}
use Rattle.tx_core.specs.Operations.{ops_of}
use Rattle.dc_talk.specs.Records.{inside, firsts, mine}
use Rattle.dc_talk.specs.Objects.{state_at}
use Rattle.dc_talk.proofs.Firsts.{firsts_apart}
use Rattle.check_point.specs.Operations.{state_after, greatest}
use Rattle.check_point.specs.Partings.{IsParting}
use Rattle.check_point.proofs.Partings.{state_of_parting, number_of_parting, count_of_parting}
use Rattle.point_log.specs.Splits.{first_txs, is_inside, IsSplit}
use Rattle.point_log.proofs.Inside.{inside_grows, state_inside, greatest_inside}

module _ (A : List Record) (base : List ℕ) (folded kept : List Tx) (split : IsSplit A base folded kept) where
  -- the folded ones are within each vector that covers the base
  parting : (w : List ℕ) → Covers w base → IsParting (is_inside A w) (first_txs A) folded kept
  parting w covers = record {
    apart = apart_map (λ (r : Record). r.tx) (λ (tx : Tx). tx.dot) (firsts A) (firsts_apart [] A);
    whole = split.whole;
    passed = λ tx i. inside_grows A w base tx.dot covers (split.within tx i);
  }

  pub state_of_split : (w : List ℕ) (o : ObjectId) → Covers w base → fold_of (state_after o folded) (flat_map (ops_of o) (filter (is_inside A w) kept)) ≡ state_at o A w
  state_of_split w o covers = state_of_parting (is_inside A w) (first_txs A) folded kept (parting w covers) o ∙ state_inside A w o

  pub mine_of_split : (w : List ℕ) (client : ℕ) → Covers w base → max (greatest client folded) (greatest client (filter (is_inside A w) kept)) ≡ mine client (inside A w)
  mine_of_split w client covers = number_of_parting (is_inside A w) (first_txs A) folded kept (parting w covers) client ∙ greatest_inside A w client

  pub count_of_split : (w : List ℕ) → Covers w base → length folded + length (filter (is_inside A w) kept) ≡ length (filter (is_inside A w) (first_txs A))
  count_of_split w covers = count_of_parting (is_inside A w) (first_txs A) folded kept (parting w covers)
