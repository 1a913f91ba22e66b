use Rattle.std.proofs.Common.{◌++◌, ◌∷◌, [], map, sym, ap, ◌∙◌}
use Rattle.run_book.specs.Graphs.{node_of}
use Rattle.run_book.specs.BareNodes.{bare_node}
use Rattle.run_book.proofs.BareNodes.{open_is, commit_is}
use Rattle.run_book.proofs.book.Book.push_commit.Goals as goal

pub returns-in_ok-push : goal.returns-in_ok-push
returns-in_ok-push c = λ setup s fit h range wide.
    let b = c.args.self.now in
    c.in_ok-push.ensures.items
    ∙ (ap (λ node. c.args.nodes.now.items ++ node ∷ []) (c.in_ok-next_node.ensures setup s fit h range wide ∙ ap bare_node (open_is b s))
    ∙ ap (λ txs. c.args.nodes.now.items ++ map bare_node (map (node_of b) txs)) (sym (commit_is s c.args.deed.now (sym c.is_commit.ensures ∙ c.if-is_commit.true))))
