-- The loop over the deltas of acts.
use Rattle.std.proofs.Common.{◌≡◌, ℕ, ◌≤◌, ℤ, pos, List, length, drop, map, fold, sym, ap, ◌∙◌}
use Rattle.std.specs.Int.{w128, int_wrap}
use Rattle.std.proofs.lemmas.List.{drop_all}
use Rattle.obj_counter.specs.Counter.{added}
use Rattle.obj_counter.specs.Laws.{fold-added}
use Rattle.tx_graph.specs.declared.acts.BareAct.{BareAct}
use Rattle.tx_graph.specs.Values.{deltas_in}
use Rattle.tx_graph.specs.Acts.{act_of, sum_of}

-- at the end the deltas are added up
pub sum_done : (acts : List BareAct) (i : ℕ) (sum : ℤ) → length acts ≤ i → fold added sum (deltas_in (map act_of (drop i acts))) ≡ fold added (pos 0) (deltas_in (map act_of acts)) → sum ≡ int_wrap w128 (sum_of (map act_of acts))
sum_done acts i sum end is = sym (ap (λ l. fold added sum (deltas_in (map act_of l))) (drop_all i acts end)) ∙ (is ∙ fold-added (deltas_in (map act_of acts)))
