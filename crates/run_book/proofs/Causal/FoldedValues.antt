-- The fold of the operations over a closed set and a node that is open over it has the value that is defined by what
-- sees what.
use Rattle.std.proofs.Common.{◌≡◌, ◌<◌, ◌^◌, List, map, sym, ap, ◌∙◌, subst}
use Rattle.ids_core.specs.declared.ids.Dot.{Dot}
use Rattle.ids_core.specs.declared.ids.Mark.{Mark}
use Rattle.ids_core.specs.declared.object.ObjectId.{ObjectId}
use Rattle.ids_core.specs.declared.object.Sort.TheVariants as sort
use Rattle.obj_counter.specs.Counter.{sizes, total}
use Rattle.tx_core.specs.declared.op.Op.{Op}
use Rattle.tx_core.specs.declared.state.Value.{Value}
use Rattle.tx_core.specs.declared.state.Value.TheVariants.{Number}
use Rattle.tx_core.specs.States.{empty_of, fold_of, value_of}
use Rattle.tx_core.specs.Objects.{AreOf, IsValueOf}
use Rattle.tx_core.proofs.Values.{value_is, counter_exact}
use Rattle.tx_graph.specs.Nodes.{Node}
use Rattle.run_book.proofs.Causal.InView.{ops_over}
use Rattle.run_book.proofs.Causal.Acts.{op_of_act, acts_over_are, acts_with}
use Rattle.run_book.proofs.Causal.Operations.{distinct_over, kinds_over}
use Rattle.run_book.proofs.Causal.OpenNodes.{WellIssued, IsOpenOver}
use Rattle.run_book.proofs.Causal.TagsAndSees.{tagged}
use Rattle.run_book.proofs.Causal.ValueBySees.{value_by_sees}
use Rattle.run_book.proofs.Causal.Sums.{deltas_of_ops}
use Rattle.tx_graph.specs.Values.{deltas_in, IsValueBy}

-- the value of the fold of operations on an object
abbrev pub folded : ObjectId → List (Mark × Op) → Value
folded o ops = value_of (fold_of (empty_of o.sort) ops)

-- it is that over the set and the open node, where the deltas are small together
pub folded_over : (nodes : List Node) (set : List Dot) (last : Node) → WellIssued nodes → IsOpenOver nodes set last → (o : ObjectId) → sizes (deltas_in (acts_with nodes set last o)) < 2 ^ 127 → IsValueBy o.sort (acts_with nodes set last o) (folded o (ops_over nodes set last o))
folded_over nodes set last well open_last o small =
    value_by_sees (acts_with nodes set last o) (tagged nodes set last well open_last o) o.sort (folded o ops)
    (subst (λ l. AreOf o.sort l) (sym same) kinds)
    (subst (λ l. IsValueOf o.sort l (folded o ops)) (sym same) (value_is o.sort ops (distinct_over nodes set last o well.made open_last.fresh) kinds))
    sum
  where
    ops : List (Mark × Op)
    ops = ops_over nodes set last o

    same : map op_of_act (acts_with nodes set last o) ≡ ops
    same = acts_over_are nodes set last o

    kinds : AreOf o.sort ops
    kinds = kinds_over nodes set last o well.kinds open_last.kinds

    sum : o.sort ≡ sort.Counter → folded o ops ≡ Number (total (deltas_in (acts_with nodes set last o)))
    sum counter =
        ap (λ s. value_of (fold_of (empty_of s) ops)) counter
        ∙ (counter_exact ops (subst (λ l. sizes l < 2 ^ 127) (sym (deltas_of_ops nodes set last o)) small)
        ∙ ap (λ l. Number (total l)) (deltas_of_ops nodes set last o))
