-- What a point and a log tell at the point's vector, the base.
use Rattle.std.proofs.Common.{◌≡◌, ℕ, List, [], ◌∷◌, length, map, inl, inr, refl, sym, ap, ◌∙◌, arith}
use Rattle.std.specs.Prelude.{not, filter, flat_map}
use Rattle.std.proofs.lemmas.List.{length-map}
use Rattle.std.proofs.lemmas.Simd.{map-map}
use Rattle.list_core.specs.Members.{In}
use Rattle.list_core.proofs.Images.{filter-map}
use Rattle.list_core.proofs.Members.{filter_none}
use Rattle.ids_core.specs.declared.object.ObjectId.{ObjectId}
use Rattle.vv_core.proofs.Covering.{Covers_refl}
use Rattle.tx_core.specs.declared.tx.Tx.{Tx}
use Rattle.tx_core.specs.declared.tx.Record.{Record}
use Rattle.tx_core.specs.declared.part.RestPart.{RestPart}
use Rattle.tx_core.specs.States.{fold_of}
use Rattle.tx_core.specs.Operations.{ops_of}
use Rattle.dc_talk.specs.Records.{has, inside, firsts, mine}
use Rattle.dc_talk.specs.Dots.{stamps_of}
use Rattle.dc_talk.specs.Objects.{state_at}
use Rattle.dc_talk.specs.Answers.{count_inside}
use Rattle.op_log.specs.declared.logged.Logged.{Logged}
use Rattle.op_log.specs.Logs.{LogView}
use Rattle.op_log.specs.RestParts.{parts_of}
use Rattle.check_point.specs.Operations.{state_after, greatest}
use Rattle.check_point.specs.Points.{PointView, state_of, number_of}
use Rattle.point_log.specs.Splits.{first_txs, is_inside}
use Rattle.point_log.specs.LogSplits.{txs_of}
use Rattle.point_log.specs.StandFor.{StandFor}
use Rattle.point_log.proofs.Splits.{state_of_split, mine_of_split, count_of_split}
use Rattle.cut_law.specs.Cuts.{rest_of}

-- a transaction with all stamps that it has among the records
abbrev tx_part : List Record → Tx → RestPart
tx_part A tx = record { tx = tx; stamps = stamps_of tx.dot A }

-- the parts of a log whose transactions have all stamps of the records
stamped : (A : List Record) (items : List Logged) → ((x : Logged) → In x items → x.stamps ≡ stamps_of x.tx.dot A) → parts_of items ≡ map (tx_part A) (txs_of items)
stamped A [] stamps = refl
stamped A (x ∷ items) stamps = λ i. record { tx = x.tx; stamps = stamps x (inl refl) i } ∷ stamped A items (λ y j. stamps y (inr j)) i

module _ (A : List Record) (point : PointView) (kept : LogView) (s : StandFor A point kept) where
  -- nothing in the log lies within the base
  none : filter (is_inside A point.vector) (txs_of kept.items) ≡ []
  none = filter_none (is_inside A point.vector) (txs_of kept.items) s.in_log.split.rest

  -- how many transactions lie within it
  pub folded_there : point.folded ≡ count_inside A point.vector
  folded_there =
      let count = count_of_split A point.vector s.folded (txs_of kept.items) s.in_log.split point.vector (Covers_refl point.vector) in
      let few : length (filter (is_inside A point.vector) (txs_of kept.items)) ≡ 0 = ap length none in
      let first : length (filter (is_inside A point.vector) (first_txs A)) ≡ count_inside A point.vector =
      ap length (filter-map (is_inside A point.vector) (λ (r : Record). r.tx) (firsts A)) ∙ length-map (filter (λ (r : Record). has r.tx.dot (inside A point.vector)) (firsts A)) (λ (r : Record). r.tx) in
      let is = s.at_point.folded in
      omega (arith, count, few, first, is)

  -- the state of each object there
  pub state_there : (o : ObjectId) → state_of point o ≡ state_at o A point.vector
  state_there o =
      s.at_point.states o
      ∙ (sym (ap (λ (txs : List Tx). fold_of (state_after o s.folded) (flat_map (ops_of o) txs)) none)
      ∙ state_of_split A point.vector s.folded (txs_of kept.items) s.in_log.split point.vector o (Covers_refl point.vector))

  -- the greatest number of each client there
  pub mine_there : (client : ℕ) → number_of point client ≡ mine client (inside A point.vector)
  mine_there client =
      let all = mine_of_split A point.vector s.folded (txs_of kept.items) s.in_log.split point.vector client (Covers_refl point.vector) in
      let no : greatest client (filter (is_inside A point.vector) (txs_of kept.items)) ≡ 0 = ap (greatest client) none in
      let is = s.at_point.numbers client in
      omega (arith, all, no, is)

  -- and all that does not
  pub rest_there : parts_of kept.items ≡ rest_of A point.vector
  rest_there =
      stamped A kept.items s.in_log.stamps
      ∙ (ap (map (tx_part A)) (s.in_log.order ∙ filter-map (λ (tx : Tx). not (is_inside A point.vector tx)) (λ (r : Record). r.tx) (firsts A))
      ∙ map-map (tx_part A) (λ (r : Record). r.tx) (filter (λ (r : Record). not (has r.tx.dot (inside A point.vector))) (firsts A)))
