use Rattle.std.proofs.Common.{◌≡◌, ◌+◌, ◌-◌, ◌++◌, map, ap, ◌∙◌, arith}
use Rattle.std.proofs.lemmas.Result.{on_ok_weaker}
use Rattle.dc_talk.specs.Rule.{commits_of}
use Rattle.run_book.specs.Parts.{idle_log, notes_of}
use Rattle.run_book.specs.Graphs.{node_of}
use Rattle.run_book.specs.BareNodes.{bare_node}
use Rattle.run_book.proofs.Bases.{log_there}
use Rattle.run_book.proofs.book.Book.push_client.Goals as goal

pub returns-in-Some : goal.returns-in-Some
returns-in-Some c =
    on_ok_weaker c.push_log.result
    (λ pushed setup fit is_client.
    let b = c.args.self.now in
    let client = c.args.client in
    let same : client + 1 - 1 ≡ client = omega arith in
    let found = log_there b c.as_slice.result.now client c.in-Some.log.now c.as_slice.ensures (c.in-Some.ensures.lookup.3.1 (idle_log 0)) in
    pushed (client + 1) setup fit is_client found ∙ ap (λ k. c.args.nodes.now.items ++ map bare_node (map (node_of b) (commits_of b.n k setup.capacity (notes_of b (client + 1))))) same)
    c.push_log.ensures
