-- What a log tells beside what was folded.
use Rattle.std.proofs.Common.{◌≡◌, ℕ, ◌+◌, max, List, length, sym, ap, ◌∙◌}
use Rattle.std.specs.Prelude.{filter, flat_map}
use Rattle.std.proofs.lemmas.List.{length-map}
use Rattle.list_core.specs.Members.{In}
use Rattle.list_core.proofs.Members.{filter-agree}
use Rattle.list_core.proofs.Images.{filter-map}
use Rattle.ids_core.specs.declared.object.ObjectId.{ObjectId}
use Rattle.vv_core.specs.Vectors.{Covers}
use Rattle.vv_core.specs.Stamps.{is_any_within}
use Rattle.tx_core.specs.declared.tx.Tx.{Tx}
use Rattle.tx_core.specs.declared.tx.Record.{Record}
use Rattle.tx_core.specs.States.{fold_of}
use Rattle.tx_core.specs.Operations.{ops_of}
use Rattle.dc_talk.specs.Records.{inside, mine}
use Rattle.dc_talk.specs.Objects.{state_at}
use Rattle.dc_talk.proofs.Stamps.{any_inside}
use Rattle.op_log.specs.declared.logged.Logged.{Logged}
use Rattle.op_log.specs.Logs as log
use Rattle.check_point.specs.Operations.{state_after, greatest}
use Rattle.point_log.specs.Splits.{first_txs, is_inside}
use Rattle.point_log.specs.LogSplits.{txs_of, ops_in, IsLogSplit}
use Rattle.point_log.proofs.Splits.{state_of_split, mine_of_split, count_of_split}
use Rattle.point_log.proofs.Chains.{chain_inside, mine_inside}

module _ (A : List Record) (base : List ℕ) (folded : List Tx) (kept : log.LogView) (split : IsLogSplit A base folded kept) where
  -- what is inside a vector by its stamps in the log is so by the records
  pub inside_both : (x : Logged) → In x kept.items → (w : List ℕ) → log.is_inside w x ≡ is_inside A w x.tx
  inside_both x i w = ap (is_any_within w) (split.stamps x i) ∙ any_inside w x.tx.dot A

  -- the transactions of the log that are inside a vector, by their stamps there
  pub txs_inside : (w : List ℕ) → txs_of (filter (log.is_inside w) kept.items) ≡ filter (is_inside A w) (txs_of kept.items)
  txs_inside w = ap txs_of (filter-agree (log.is_inside w) (λ x. is_inside A w x.tx) kept.items (λ x i. inside_both x i w)) ∙ sym (filter-map (is_inside A w) (λ (x : Logged). x.tx) kept.items)

  pub state_of_log : (w : List ℕ) (o : ObjectId) → Covers w base → fold_of (state_after o folded) (ops_in (filter (λ c. log.is_inside_at w c.tx kept.items) (log.chain_of o kept.items))) ≡ state_at o A w
  state_of_log w o covers = ap (fold_of (state_after o folded)) (chain_inside w o kept.items split.apart ∙ ap (flat_map (ops_of o)) (txs_inside w)) ∙ state_of_split A base folded (txs_of kept.items) split.split w o covers

  pub mine_of_log : (w : List ℕ) (client : ℕ) → Covers w base → max (greatest client folded) (log.mine_in client w kept.items) ≡ mine client (inside A w)
  mine_of_log w client covers = ap (λ n. max (greatest client folded) n) (sym (mine_inside w client kept.items) ∙ ap (greatest client) (txs_inside w)) ∙ mine_of_split A base folded (txs_of kept.items) split.split w client covers

  pub count_of_log : (w : List ℕ) → Covers w base → length folded + length (log.within_of w kept.items) ≡ length (filter (is_inside A w) (first_txs A))
  count_of_log w covers = ap (λ n. length folded + n) (sym (length-map (log.within_of w kept.items) (λ (x : Logged). x.tx)) ∙ ap length (txs_inside w)) ∙ count_of_split A base folded (txs_of kept.items) split.split w covers
