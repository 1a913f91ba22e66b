-- Words and tags of a set are those of its operations.
use Rattle.std.proofs.Common.{◌≡◌, ◌↔◌, ℕ, List, Some, fold, refl}
use Rattle.list_core.specs.Members.{In}
use Rattle.ids_core.specs.declared.ids.OpId.{OpId}
use Rattle.ids_core.specs.declared.ids.Mark.{Mark}
use Rattle.ids_core.specs.declared.object.Sort.TheVariants as sort
use Rattle.ids_core.specs.Kinds.{Distinct}
use Rattle.obj_set.specs.declared.set.SetOp.{SetOp}
use Rattle.obj_set.specs.Sets as set
use Rattle.obj_set.specs.Laws.{step_defined}
use Rattle.tally_core.specs.Live.{live_ids, live_names}
use Rattle.tally_core.specs.Changes.{LiveByOps}
use Rattle.tally_core.proofs.Alive.{live_by_ops}
use Rattle.tally_core.proofs.Listed.{names_ascend}
use Rattle.tx_core.specs.declared.op.Op.{Op}
use Rattle.tx_core.specs.declared.op.Op.TheVariants.{Inc, Write, Add, Remove, Put, Erase}
use Rattle.tx_core.specs.Ops.{sort_of_op, set_op, marked}
use Rattle.tx_core.specs.Objects.{AreOf, IsLiveId, AreWords}
use Rattle.tx_core.proofs.Folds.{distinct_marked}
use Rattle.tx_core.proofs.Live.{Takes, Tells, live_by_kind, both}

set_takes : Takes sort.Set set_op set.does
set_takes = record { holds = by }
  where
    by : (mark : Mark) (op : Op) → sort_of_op op ≡ sort.Set → (o : SetOp) × (set_op op ≡ Some o) × Tells op (set.does (mark, o))
    by mark (Add word over) is = (_, refl, record { name = refl; adds = refl; over = refl })
    by mark (Remove word over) is = (_, refl, record { name = refl; adds = refl; over = refl })
    by mark (Inc delta) is = cc
    by mark (Write word) is = cc
    by mark (Put key word over) is = cc
    by mark (Erase key over) is = cc

module _ (ops : List (Mark × Op)) (distinct : Distinct ops) (are : AreOf sort.Set ops) where
  abbrev pub set_after : set.Set
  set_after = fold set.step set.start (marked set_op ops)

  set_live : LiveByOps set.does (marked set_op ops) set_after
  set_live =
      let apart = distinct_marked set_op ops distinct in
      live_by_ops set.does (marked set_op ops) set_after apart (step_defined (marked set_op ops) apart)

  pub set_tags : (word : List ℕ) (id : OpId) → In id (live_ids set_after word) ↔ IsLiveId ops word id
  set_tags word id = both (set_live.ids word id) (live_by_kind sort.Set set_op set.does set_takes ops are word id)

  pub set_words : AreWords ops (live_names set_after)
  set_words = record {
    ascending = names_ascend set_after;
    exact = λ word.
        let kind = λ (id : OpId). live_by_kind sort.Set set_op set.does set_takes ops are word id in
        both (set_live.names word) (λ l. (l.0, (kind l.0).0 l.1), λ l. (l.0, (kind l.0).1 l.1));
  }
