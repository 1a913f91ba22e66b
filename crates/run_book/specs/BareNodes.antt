-- Nodes without the identifiers that their operations are over.
use Rattle.std.specs.Prelude.{Bool, true, false}
use Rattle.dc_talk.specs.declared.calls.Call.TheVariants.{Commit}
use Rattle.dc_talk.specs.declared.calls.Outcome.TheVariants.{Number}
use Rattle.dc_talk.specs.declared.log.Deed.{Deed}
use Rattle.dc_talk.specs.declared.log.Deed.TheVariants.{Did}
use Rattle.run_book.specs.declared.bare_nodes.BareNode.{BareNode}
use Rattle.tx_graph.specs.Nodes.{Node}
use Rattle.run_book.specs.Edits.{edits_of}

-- a node without what its updates are over
abbrev pub bare_node : Node → BareNode
bare_node t = record { dot = t.dot; deps = t.deps; rank = t.rank; edits = edits_of t.updates }

-- whether a deed is a commit that got a number
abbrev pub is_commit : Deed → Bool
is_commit (Did Commit (Number number)) = true
is_commit _ = false
