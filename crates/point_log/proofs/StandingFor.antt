-- What a point and a log tell of the records that they stand for.
use Rattle.std.proofs.Common.{◌≡◌, ℕ, ◌+◌, Bool, true, false, max, List, [], ◌∷◌, ◌++◌, length, refl, sym, ap, subst, ◌∙◌}
use Rattle.std.specs.Prelude.{filter}
use Rattle.list_core.specs.Members.{In}
use Rattle.ids_core.specs.declared.ids.Dot.{Dot}
use Rattle.ids_core.specs.declared.object.ObjectId.{ObjectId}
use Rattle.vv_core.specs.Vectors.{within, Covers}
use Rattle.tx_core.specs.declared.tx.Tx.{Tx}
use Rattle.tx_core.specs.declared.tx.Record.{Record}
use Rattle.tx_core.specs.States.{fold_of}
use Rattle.dc_talk.specs.Records.{has, inside, mine}
use Rattle.dc_talk.specs.Dots.{dots_of, stamps_of}
use Rattle.dc_talk.specs.Objects.{state_at}
use Rattle.op_log.specs.declared.logged.Logged.{Logged}
use Rattle.op_log.specs.Logs as log
use Rattle.check_point.specs.Points.{PointView, IsPointOf}
use Rattle.point_log.specs.Splits.{first_txs, is_inside}
use Rattle.point_log.specs.LogSplits.{txs_of, ops_in}
use Rattle.point_log.specs.StandFor.{StandFor, state_told, mine_told, count_told, with_one}
use Rattle.point_log.proofs.LogSplits.{state_of_log, mine_of_log, count_of_log}
use Rattle.point_log.proofs.LogGrowth.{log_from, log_none, log_new, log_first, log_again, log_on}

-- with nothing applied: a point with nothing folded and an empty log
pub none_stand : (point : PointView) → IsPointOf point [] → StandFor [] point (record { appended = 0; items = [] })
none_stand point is = record { folded = []; at_point = is; in_log = log_none point.vector }

module _ (A : List Record) (point : PointView) (kept : log.LogView) (s : StandFor A point kept) where
  pub state_stands : (w : List ℕ) (o : ObjectId) → Covers w point.vector → state_told point kept o w ≡ state_at o A w
  state_stands w o covers = ap (λ state. fold_of state (ops_in (filter (λ c. log.is_inside_at w c.tx kept.items) (log.chain_of o kept.items)))) (s.at_point.states o) ∙ state_of_log A point.vector s.folded kept s.in_log w o covers

  pub mine_stands : (w : List ℕ) (client : ℕ) → Covers w point.vector → mine_told point kept client w ≡ mine client (inside A w)
  mine_stands w client covers = ap (λ n. max n (log.mine_in client w kept.items)) (s.at_point.numbers client) ∙ mine_of_log A point.vector s.folded kept s.in_log w client covers

  pub count_stands : (w : List ℕ) → Covers w point.vector → count_told point kept w ≡ length (filter (is_inside A w) (first_txs A))
  count_stands w covers = ap (λ n. n + length (log.within_of w kept.items)) s.at_point.folded ∙ count_of_log A point.vector s.folded kept s.in_log w covers

  pub known_stands : (x : Logged) → In x kept.items → ((r : Record) × In r A × (x.tx ≡ r.tx)) × (x.stamps ≡ stamps_of x.tx.dot A)
  known_stands x i = (log_from A point.vector s.folded kept s.in_log x i, s.in_log.stamps x i)

  pub new_stands : (d : Dot) → has d (dots_of A) ≡ false → log.has_dot d kept.items ≡ false
  new_stands = log_new A point.vector s.folded kept s.in_log

  pub first_stands : (r : Record) → within r.stamp point.vector ≡ false → has r.tx.dot (dots_of A) ≡ false → StandFor (A ++ r ∷ []) point (log.with_record kept r)
  first_stands r out new = record { folded = s.folded; at_point = s.at_point; in_log = log_first A point.vector s.folded kept s.in_log r out new }

  pub again_stands : (r : Record) → within r.stamp point.vector ≡ false → has r.tx.dot (dots_of A) ≡ true → StandFor (A ++ r ∷ []) point (record kept { items = log.with_stamp r.tx.dot r.stamp kept.items })
  again_stands r out known = record { folded = s.folded; at_point = s.at_point; in_log = log_again A point.vector s.folded kept s.in_log r out known }

  pub pruned_stands : (after : PointView) → Covers after.vector point.vector → ((given : List Tx) → IsPointOf point given → IsPointOf after (given ++ txs_of (log.within_of after.vector kept.items))) → StandFor A after (record kept { items = log.left_of after.vector kept.items })
  pruned_stands after covers more = record {
    folded = s.folded ++ txs_of (log.within_of after.vector kept.items);
    at_point = more s.folded s.at_point;
    in_log = log_on A point.vector s.folded kept s.in_log after.vector covers;
  }

  -- with one record more, which is fresh where its dot was not there
  pub kept_stands : (r : Record) (fresh : Bool) → within r.stamp point.vector ≡ false → (fresh ≡ true → has r.tx.dot (dots_of A) ≡ false) → (fresh ≡ false → has r.tx.dot (dots_of A) ≡ true) → StandFor (A ++ r ∷ []) point (with_one kept r fresh)
  kept_stands r true out new known = first_stands r out (new refl)
  kept_stands r false out new known = again_stands r out (known refl)

-- a point and a log once a prune has taken what is within a vector from the log to the point
pub prune_stands : (A : List Record) (point after : PointView) (kept left : log.LogView) (to : List ℕ) (txs : List Tx) → StandFor A point kept → Covers to point.vector → after.vector ≡ to → txs ≡ txs_of (log.within_of to kept.items) → ((given : List Tx) → IsPointOf point given → IsPointOf after (given ++ txs)) → left ≡ record kept { items = log.left_of to kept.items } → StandFor A after left
prune_stands A point after kept left to txs s covers there are more is =
    subst (λ (l : log.LogView). StandFor A after l) (sym (is ∙ ap (λ (w : List ℕ). record kept { items = log.left_of w kept.items }) (sym there)))
    (pruned_stands A point kept s after (subst (λ (w : List ℕ). Covers w point.vector) (sym there) covers)
    (λ given was. subst (λ (ts : List Tx). IsPointOf after (given ++ ts)) (are ∙ ap (λ (w : List ℕ). txs_of (log.within_of w kept.items)) (sym there)) (more given was)))
