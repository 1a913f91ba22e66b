use Rattle.std.proofs.Common.{◌≡◌, ◌+◌, ◌-◌, ◌*◌, ◌++◌, ℕ, List, length, sym, ap, ◌∙◌, arith}
use Rattle.std.specs.Prelude.{flat_map}
use Rattle.std.specs.List.{range_with_len}
use Rattle.run_book.specs.Parts.{IsClient}
use Rattle.run_book.specs.ReadBases.{bases_of}
use Rattle.trail_text.specs.Trails.{bases_text}
use Rattle.trail_text.proofs.Growing.{ranged_next}
use Rattle.trail_text.proofs.trail.write_reads.Goals as goal

pub loop-client-preserved : goal.loop-client-preserved
loop-client-preserved c = λ setup fit.
    let b = c.args.book.now in
    let client = c.loop-client.client in
    let f : ℕ → List ℕ = λ client. bases_text client (bases_of b setup (client + 1)) in
    let count : length c.as_slice.result.now ≡ 1 + setup.clients + 4 * b.n = ap length c.as_slice.ensures ∙ fit.form.logs in
    let is_client : IsClient setup (client + 1) = record { low = omega (arith, c.loop-client.auto.client); high = omega (arith, count, c.from.ensures, c.saturating_sub-end.ensures, c.loop-client-test.true) } in
    let bases = c.deref-in-loop-client.ensures.value ∙ c.in_ok-bases.ensures setup fit is_client (c.deref.ensures.value ∙ c.in_ok-stamped.ensures) in
    let before : client - 1 + 1 ≡ client = omega (arith, c.loop-client.auto.client) in
    let next : client - 1 + 1 ≡ client + 1 - 1 = omega (arith, c.loop-client.auto.client) in
    ranged_next f (client - 1) c.args.text.now.items c.loop-client.text.items c.write_bases.new.text.items (c.loop-client.invariant setup fit)
    (c.in_ok-write_bases.ensures ∙ ap (λ bases. c.loop-client.text.items ++ bases_text client bases) bases ∙ ap (λ client. c.loop-client.text.items ++ f client) (sym before))
    ∙ ap (λ count. c.args.text.now.items ++ flat_map f (range_with_len 1 count)) next

pub returns : goal.returns
returns c = λ setup fit.
    let b = c.args.book.now in
    let f : ℕ → List ℕ = λ client. bases_text client (bases_of b setup (client + 1)) in
    let count : length c.as_slice.result.now ≡ 1 + setup.clients + 4 * b.n = ap length c.as_slice.ensures ∙ fit.form.logs in
    let all : c.loop-client.client - 1 ≡ setup.clients = omega (arith, count, c.from.ensures, c.saturating_sub-end.ensures, c.loop-client-test.false) in
    c.loop-client.invariant setup fit ∙ ap (λ k. c.args.text.now.items ++ flat_map f (range_with_len 1 k)) all
