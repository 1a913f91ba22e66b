-- Pairs and tags of a map are those of its operations.
use Rattle.std.proofs.Common.{◌≡◌, ◌↔◌, ℕ, false, List, Some, fold, refl, sym, ap, ◌∙◌, subst}
use Rattle.std.specs.Ordering.{is_lt}
use Rattle.std.proofs.lemmas.Option.{none-some, same_Some}
use Rattle.list_core.specs.Members.{In}
use Rattle.ids_core.specs.declared.ids.OpId.{OpId}
use Rattle.ids_core.specs.declared.ids.Mark.{Mark}
use Rattle.ids_core.specs.declared.object.Sort.TheVariants as sort
use Rattle.ids_core.specs.Kinds.{Distinct}
use Rattle.ids_core.specs.Orders.{mark_cmp, mark_cmp_total}
use Rattle.ids_core.proofs.Orders.{at_most_from_not_below, not_below_from_at_most}
use Rattle.obj_map.specs.declared.map.MapOp.{MapOp}
use Rattle.obj_map.specs.Maps as map
use Rattle.obj_map.specs.Laws.{step_defined}
use Rattle.obj_map.proofs.Values.{pairs_ascend, value_exact}
use Rattle.tally_core.specs.Live.{live_ids}
use Rattle.tally_core.specs.Changes.{LiveByOps}
use Rattle.tally_core.proofs.Alive.{live_by_ops}
use Rattle.tx_core.specs.declared.op.Op.{Op}
use Rattle.tx_core.specs.declared.op.Op.TheVariants.{Inc, Write, Add, Remove, Put, Erase}
use Rattle.tx_core.specs.Ops.{sort_of_op, name_of, map_op, marked}
use Rattle.tx_core.specs.Objects.{AreOf, IsLive, IsLiveId, IsWordAt, ArePairs}
use Rattle.tx_core.proofs.Folds.{distinct_marked}
use Rattle.tx_core.proofs.Live.{Takes, Tells, live_from, live_to, live_by_kind, both}

map_takes : Takes sort.Map map_op map.does
map_takes = record { holds = by }
  where
    by : (mark : Mark) (op : Op) → sort_of_op op ≡ sort.Map → (o : MapOp) × (map_op op ≡ Some o) × Tells op (map.does (mark, o))
    by mark (Put key word over) is = (_, refl, record { name = refl; adds = refl; over = refl })
    by mark (Erase key over) is = (_, refl, record { name = refl; adds = refl; over = refl })
    by mark (Inc delta) is = cc
    by mark (Write word) is = cc
    by mark (Add word over) is = cc
    by mark (Remove word over) is = cc

-- an operation with a word is a put of it
put_of : (op : Op) (o : MapOp) (key word : List ℕ) → map_op op ≡ Some o → o.word ≡ Some word → name_of op ≡ Some key → (over : List OpId) × (op ≡ Put key word over)
put_of (Put k w over) o key word is some under =
    let same : w ≡ word = same_Some w word (ap (λ (p : MapOp). p.word) (same_Some _ o is) ∙ some) in
    (over, ap (λ k. Put k w over) (same_Some k key under) ∙ ap (λ w. Put key w over) same)
put_of (Erase k over) o key word is some under = absurd (none-some word (ap (λ (p : MapOp). p.word) (same_Some _ o is) ∙ some))
put_of (Inc delta) o key word is some under = cc
put_of (Write w) o key word is some under = cc
put_of (Add w over) o key word is some under = cc
put_of (Remove w over) o key word is some under = cc

module _ (ops : List (Mark × Op)) (distinct : Distinct ops) (are : AreOf sort.Map ops) where
  abbrev pub map_after : map.Map
  map_after = fold map.step map.start (marked map_op ops)

  map_live : LiveByOps map.does (marked map_op ops) map_after
  map_live =
      let apart = distinct_marked map_op ops distinct in
      live_by_ops map.does (marked map_op ops) map_after apart (step_defined (marked map_op ops) apart)

  pub map_tags : (key : List ℕ) (id : OpId) → In id (live_ids map_after key) ↔ IsLiveId ops key id
  map_tags key id = both (map_live.ids key id) (live_by_kind sort.Map map_op map.does map_takes ops are key id)

  word_from : (key word : List ℕ) → map.IsGreatestPut (marked map_op ops) key word → IsWordAt ops key word
  word_from key word g =
      let f = live_from sort.Map map_op map.does map_takes ops are key g.id g.live in
      let put = put_of f.op g.live.op.1 key word f.is g.is f.live.under in
      record {
        mark = g.live.op.0;
        over = put.0;
        live = subst (λ op. IsLive ops key (g.live.op.0, op)) put.1 f.live;
        above = λ op l.
            let t = live_to sort.Map map_op map.does map_takes ops are key op l in
            at_most_from_not_below mark_cmp_total g.live.op.0 op.0 (subst (λ mark. is_lt (mark_cmp g.live.op.0 mark) ≡ false) t.mark (g.above op.0.id t.live));
      }

  word_to : (key word : List ℕ) → IsWordAt ops key word → map.IsGreatestPut (marked map_op ops) key word
  word_to key word w =
      let t = live_to sort.Map map_op map.does map_takes ops are key (w.mark, Put key word w.over) w.live in
      record {
        id = w.mark.id;
        live = t.live;
        is = sym (ap (λ (o : MapOp). o.word) (same_Some _ t.live.op.1 t.is));
        above = λ id l.
            let f = live_from sort.Map map_op map.does map_takes ops are key id l in
            subst (λ mark. is_lt (mark_cmp mark l.op.0) ≡ false) (sym t.mark) (not_below_from_at_most mark_cmp_total w.mark l.op.0 (w.above (l.op.0, f.op) f.live));
      }

  pub map_pairs : ArePairs ops (map.pairs map_after)
  map_pairs = record {
    ascending = pairs_ascend map_after;
    exact = λ key word.
        let apart = distinct_marked map_op ops distinct in
        both (value_exact (marked map_op ops) map_after apart (step_defined (marked map_op ops) apart) key word) (word_from key word, word_to key word);
  }
