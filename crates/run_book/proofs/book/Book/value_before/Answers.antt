use Rattle.std.proofs.Common.{◌≡◌, ◌++◌, map, sym, ap, ◌∙◌}
use Rattle.std.specs.Prelude.{flat_map}
use Rattle.std.proofs.lemmas.List.{map-append}
use Rattle.std.proofs.lemmas.Result.{IfOk-at_ok}
use Rattle.run_book.specs.declared.bare_nodes.BareNode.{BareNode}
use Rattle.tx_graph.specs.Values.{acts_of, nodes_in, IsValueBy}
use Rattle.run_book.specs.Graphs.{graph, basis_at, client_at, open_node}
use Rattle.tx_graph.specs.Acts.{bare_of}
use Rattle.run_book.specs.BareNodes.{bare_node}
use Rattle.run_book.proofs.ReadValues.{ok_from, few_updates, open_modest, value_at}
use Rattle.run_book.proofs.book.Book.value_before.Goals as goal
use Rattle.run_book.proofs.Causal.Acts.{acts_with}

pub returns : goal.returns
returns c = ok_from c.value_by_sees.result _ (λ value is setup a m fit client last.
    let b = c.args.self.now in
    let o = c.args.object.now in
    let whole = graph b setup in
    let t = open_node b (client_at b setup a m) in
    let set : c.as_slice.result.now ≡ basis_at b setup a m = c.as_slice.ensures ∙ ap (λ (n : BareNode). n.deps) last in
    let nodes : c.deref.result.now ≡ map bare_node whole = c.deref.ensures.value ∙ c.in_ok-nodes.ensures setup fit in
    let first : c.in_ok-acts.acts.items ≡ map bare_of (flat_map (acts_of o) (nodes_in whole (basis_at b setup a m))) = c.in_ok-acts.ensures whole nodes (few_updates b setup fit) ∙ ap (λ dots. map bare_of (flat_map (acts_of o) (nodes_in whole dots))) set in
    let all = c.in_ok-push_acts.ensures t last (open_modest b setup fit a m client).few in
    let acts : c.deref-2.result.now ≡ map bare_of (acts_with whole (basis_at b setup a m) t o) =
    c.deref-2.ensures.value ∙ (all ∙ (ap (λ l. l ++ map bare_of (acts_of o t)) first ∙ sym (map-append bare_of (flat_map (acts_of o) (nodes_in whole (basis_at b setup a m))) (acts_of o t)))) in
    value_at b setup fit (record { actor = a; place = m; object = o; value = value }) c.deref-2.result.now client acts
    (λ whole are unique small. IfOk-at_ok (IsValueBy o.sort whole) is (c.value_by_sees.ensures.exact whole are unique small)))
