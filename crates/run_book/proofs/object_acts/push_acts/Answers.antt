use Rattle.std.proofs.Common.{◌≡◌, ◌++◌, List, length, take, map, Some, refl, sym, ap, ◌∙◌, subst, arith}
use Rattle.std.specs.Prelude.{slice_get}
use Rattle.std.proofs.lemmas.Option.{slice_get_read}
use Rattle.std.proofs.lemmas.List.{append-nil, take_all, length-map}
use Rattle.run_book.specs.declared.edits.Edit.{Edit}
use Rattle.run_book.specs.declared.bare_nodes.BareNode.{BareNode}
use Rattle.tx_graph.specs.Values.{acts_from}
use Rattle.run_book.specs.Edits.{edit_of, edits_of}
use Rattle.tx_graph.specs.Acts.{bare_of}
use Rattle.run_book.proofs.ObjectActs.{acts_more}
use Rattle.run_book.proofs.object_acts.push_acts.Goals as goal

pub loop-place-init : goal.loop-place-init
loop-place-init c = λ t is few. sym (append-nil c.args.acts.now.items)

pub loop-place-preserved : goal.loop-place-preserved
loop-place-preserved c = λ t is few.
    let i = c.loop-place.place in
    let edits : List Edit = c.as_slice-edits.result.now in
    let are : edits ≡ edits_of t.updates = c.as_slice-edits.ensures ∙ ap (λ (n : BareNode). n.edits) is in
    let there : slice_get edits i ≡ Some c.index-edits-place.result = slice_get_read edits (length edits) i c.index-edits-place.result refl (omega arith) c.index-edits-place.is in
    acts_more c.args.object.now t c.args.node.now i c.index-edits-place.result c.args.acts.now.items c.loop-place.acts.items c.push_act.new.acts.items is few (subst (λ l. slice_get l i ≡ Some c.index-edits-place.result) are there) c.in_ok-push_act.ensures (c.loop-place.invariant t is few)

pub returns : goal.returns
returns c = λ t is few.
    let i = c.loop-place.place in
    let edits : List Edit = c.as_slice-edits.result.now in
    let are : edits ≡ edits_of t.updates = c.as_slice-edits.ensures ∙ ap (λ (n : BareNode). n.edits) is in
    let whole : take i t.updates ≡ t.updates = take_all i t.updates (omega (arith, ap length are, length-map t.updates edit_of)) in
    c.loop-place.invariant t is few ∙ ap (λ us. c.args.acts.now.items ++ map bare_of (acts_from c.args.object.now t 0 us)) whole
