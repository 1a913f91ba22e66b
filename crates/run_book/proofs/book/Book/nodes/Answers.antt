use Rattle.std.proofs.Common.{◌≡◌, ◌+◌, ◌-◌, ◌*◌, ℕ, List, length, map, ap, ◌∙◌, arith}
use Rattle.std.specs.Prelude.{flat_map}
use Rattle.std.specs.List.{range_with_len}
use Rattle.tx_core.specs.declared.tx.Tx.{Tx}
use Rattle.dc_talk.specs.Rule.{commits_of}
use Rattle.run_book.specs.Parts.{notes_of, IsClient}
use Rattle.run_book.specs.Graphs.{node_of}
use Rattle.run_book.specs.BareNodes.{bare_node}
use Rattle.run_book.proofs.BareNodes.{client_more}
use Rattle.run_book.proofs.book.Book.nodes.Goals as goal

pub loop-client-preserved : goal.loop-client-preserved
loop-client-preserved c = λ setup fit.
    let b = c.args.self.now in
    let client = c.loop-client.client in
    let f : ℕ → List Tx = λ client. commits_of b.n client setup.capacity (notes_of b (client + 1)) in
    let count : length c.as_slice.result.now ≡ 1 + setup.clients + 4 * b.n = ap length c.as_slice.ensures ∙ fit.form.logs in
    let is_client : IsClient setup (client + 1) = record { low = omega (arith, c.loop-client.auto.client); high = omega (arith, count, c.from.ensures, c.saturating_sub-end.ensures, c.loop-client-test.true) } in
    client_more b f client c.loop-client.nodes.items c.push_client.new.nodes.items (omega (arith, c.loop-client.auto.client)) (c.loop-client.invariant setup fit) (c.in_ok-push_client.ensures setup fit is_client)

pub returns : goal.returns
returns c = λ setup fit.
    let b = c.args.self.now in
    let f : ℕ → List Tx = λ client. commits_of b.n client setup.capacity (notes_of b (client + 1)) in
    let count : length c.as_slice.result.now ≡ 1 + setup.clients + 4 * b.n = ap length c.as_slice.ensures ∙ fit.form.logs in
    let all : c.loop-client.client - 1 ≡ setup.clients = omega (arith, count, c.from.ensures, c.saturating_sub-end.ensures, c.loop-client-test.false) in
    c.loop-client.invariant setup fit ∙ ap (λ k. map bare_node (map (node_of b) (flat_map f (range_with_len 1 k)))) all
