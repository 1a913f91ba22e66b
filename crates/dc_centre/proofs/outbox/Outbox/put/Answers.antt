use Rattle.std.proofs.Common.{◌≡◌, ◌<◌, ◌-◌, [], ◌∷◌, ◌++◌, map, length, ap, ◌∙◌, arith}
use Rattle.std.specs.Prelude.{slice_set, slice_index_or}
use Rattle.tx_core.specs.declared.tx.Record.{Record}
use Rattle.dc_centre.specs.Outboxes.{OutboxView}
use Rattle.dc_centre.proofs.Rows.{rows_put}
use Rattle.dc_centre.proofs.outbox.Outbox.put.Goals as goal

pub returns : goal.returns
returns c =
    let R = c.self.inside.rows.items in
    let x = c.args.sent in
    let rows : map (λ row. row.items) R ≡ c.args.self.now.rows = ap (λ (o : OutboxView). o.rows) c.self.view_is in
    let place : c.from.result ≡ x.item.stamp.centre - 1 = c.from.ensures ∙ ap (λ (r : Record). r.stamp.centre - 1) c.as_record.ensures in
    let long = c.self.invariant in
    let low = c.requires.origin.0 in
    let high = c.requires.origin.1 in
    let within : c.from.result < length R = omega (arith, place, long, low, high) in
    rows_put R c.from.result c.index_mut.result.now c.push_back_reserved.new.self within (λ row. row.items) x (c.push_back_reserved.ensures.items ∙ ap (λ row. row.items ++ x ∷ []) c.index_mut.ensures.value)
    ∙ (λ i. slice_set (rows i) (place i) (slice_index_or (rows i) (place i) [] ++ x ∷ []))
