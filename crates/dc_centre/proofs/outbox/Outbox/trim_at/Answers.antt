use Rattle.std.proofs.Common.{◌≡◌, ◌<◌, [], map, drop, length, sym, ap, ◌∙◌, arith}
use Rattle.std.specs.Prelude.{slice_set, slice_index_or}
use Rattle.std.proofs.lemmas.List.{length-map}
use Rattle.dc_centre.specs.Outboxes.{OutboxView}
use Rattle.dc_centre.proofs.Rows.{rows_drop}
use Rattle.dc_centre.proofs.outbox.Outbox.trim_at.Goals as goal

pub returns-clause-rows : goal.returns-clause-rows
returns-clause-rows c =
    let R = c.self.inside.rows.items in
    let rows : map (λ row. row.items) R ≡ c.args.self.now.rows = ap (λ (o : OutboxView). o.rows) c.self.view_is in
    let long = c.self.invariant in
    let high = c.requires in
    let within : c.args.place < length R = omega (arith, long, high) in
    rows_drop R c.args.place c.index_mut.result.now c.trim.new.records within (λ row. row.items) c.args.count (c.trim.ensures ∙ ap (λ row. drop c.args.count row.items) c.index_mut.ensures.value)
    ∙ (λ i. slice_set (rows i) c.args.place (drop c.args.count (slice_index_or (rows i) c.args.place [])))

pub returns-clause-many : goal.returns-clause-many
returns-clause-many c =
    let R = c.self.inside.rows.items in
    let rows : map (λ row. row.items) R ≡ c.args.self.now.rows = ap (λ (o : OutboxView). o.rows) c.self.view_is in
    ap length (sym rows) ∙ (length-map R (λ row. row.items) ∙ c.self.invariant)
