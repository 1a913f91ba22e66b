use Rattle.std.proofs.Common.{◌≡◌, ◌++◌, true, false, map, sym, ap, ◌∙◌}
use Rattle.std.proofs.lemmas.List.{append-nil}
use Rattle.std.proofs.lemmas.Result.{on_ok_weaker}
use Rattle.dc_talk.specs.Records.{has}
use Rattle.run_book.specs.declared.bare_nodes.BareNode.{BareNode}
use Rattle.tx_graph.specs.Acts.{bare_of}
use Rattle.run_book.proofs.ObjectActs.{acts_here, none_here}
use Rattle.run_book.proofs.object_acts.push_acts_in.Goals as goal

pub returns-then-is_in : goal.returns-then-is_in
returns-then-is_in c =
    on_ok_weaker c.push_acts.result
    (λ pushed t is few.
    let dots = c.args.dots.now in
    let here : true ≡ has t.dot dots = c.if-is_in.ensures ∙ ap (λ (n : BareNode). has n.dot dots) is in
    pushed t is few ∙ ap (λ l. c.args.acts.now.items ++ map bare_of l) (acts_here c.args.object.now t dots (sym here)))
    c.push_acts.ensures

pub returns-else-is_in : goal.returns-else-is_in
returns-else-is_in c = λ t is few.
    let dots = c.args.dots.now in
    let here : false ≡ has t.dot dots = c.if-is_in.ensures ∙ ap (λ (n : BareNode). has n.dot dots) is in
    sym (append-nil c.args.acts.now.items) ∙ ap (λ l. c.args.acts.now.items ++ map bare_of l) (none_here c.args.object.now t dots (sym here))
