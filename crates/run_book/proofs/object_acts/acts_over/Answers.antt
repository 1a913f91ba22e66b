use Rattle.std.proofs.Common.{◌≡◌, length, take, map, Some, refl, ap, ◌∙◌, arith}
use Rattle.std.specs.Prelude.{slice_get, flat_map}
use Rattle.std.proofs.lemmas.Option.{slice_get_read}
use Rattle.std.proofs.lemmas.List.{take_all, length-map}
use Rattle.tx_graph.specs.Values.{acts_of, nodes_in}
use Rattle.tx_graph.specs.Acts.{bare_of}
use Rattle.run_book.specs.BareNodes.{bare_node}
use Rattle.run_book.proofs.ObjectActs.{nodes_more}
use Rattle.run_book.proofs.object_acts.acts_over.Goals as goal

pub loop-node-preserved : goal.loop-node-preserved
loop-node-preserved c = λ whole are few.
    let i = c.loop-node.node-index in
    let nodes = c.args.nodes.now in
    let there : slice_get nodes i ≡ Some c.node-item.result = slice_get_read nodes (length nodes) i c.node-item.result refl (omega arith) c.node-item.is in
    nodes_more c.args.object.now whole c.args.dots.now i nodes c.node-item.result c.loop-node.acts.items c.push_acts_in.new.acts.items are few there c.in_ok-push_acts_in.ensures (c.loop-node.invariant whole are few)

pub returns : goal.returns
returns c = λ whole are few.
    let i = c.loop-node.node-index in
    let all : take i whole ≡ whole = take_all i whole (omega (arith, ap length are, length-map whole bare_node)) in
    c.loop-node.invariant whole are few ∙ ap (λ l. map bare_of (flat_map (acts_of c.args.object.now) (nodes_in l c.args.dots.now))) all
