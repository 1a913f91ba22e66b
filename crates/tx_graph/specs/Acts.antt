-- Acts without the identifiers that their operations are over.
use Rattle.std.specs.Prelude.{◌≡◌, ℤ, List, []}
use Rattle.list_core.specs.Members.{In}
use Rattle.obj_counter.specs.Counter.{total}
use Rattle.dc_talk.specs.Calls.{op_of}
use Rattle.tx_graph.specs.declared.acts.BareAct.{BareAct}
use Rattle.tx_graph.specs.Values.{Act, change_of, deltas_in}

-- an act without what it is over
abbrev pub bare_of : Act → BareAct
bare_of act = record { mark = act.mark; deps = act.deps; change = change_of act.op }

-- a bare act as one that is over nothing
abbrev pub act_of : BareAct → Act
act_of bare = record { mark = bare.mark; deps = bare.deps; op = op_of bare.change [] }

-- the sum of the deltas of acts
abbrev pub sum_of : List Act → ℤ
sum_of acts = total (deltas_in acts)

-- acts with one mark are one
pub record HasUniqueMarks (acts : List Act) : Type 0 where
  pub one_act : (p q : Act) → In p acts → In q acts → p.mark ≡ q.mark → p ≡ q
