use Rattle.std.proofs.Common.{◌≡◌, map, ◌∙◌}
use Rattle.std.proofs.lemmas.Result.{IfOk-at_ok}
use Rattle.tx_graph.specs.Values.{IsValueBy, acts_over}
use Rattle.run_book.specs.Graphs.{graph}
use Rattle.tx_graph.specs.Acts.{bare_of}
use Rattle.run_book.specs.BareNodes.{bare_node}
use Rattle.run_book.proofs.ReadValues.{ok_from, few_updates, value_of_set}
use Rattle.run_book.proofs.book.Book.value_over.Goals as goal

pub returns : goal.returns
returns c = ok_from c.value_by_sees.result _ (λ value is setup fit.
    let b = c.args.self.now in
    let o = c.args.object.now in
    let nodes : c.deref.result.now ≡ map bare_node (graph b setup) = c.deref.ensures.value ∙ c.in_ok-nodes.ensures setup fit in
    let acts : c.deref-2.result.now ≡ map bare_of (acts_over (graph b setup) c.args.dots.now o) = c.deref-2.ensures.value ∙ c.in_ok-acts.ensures (graph b setup) nodes (few_updates b setup fit) in
    value_of_set b setup fit c.args.dots.now o c.deref-2.result.now value acts
    (λ whole are unique small. IfOk-at_ok (IsValueBy o.sort whole) is (c.value_by_sees.ensures.exact whole are unique small)))
