use Rattle.std.proofs.Common.{◌≡◌, ◌≤◌, ◌<◌, ◌-◌, map, length, ap, ◌∙◌, subst, arith, deque_len, deque_capacity}
use Rattle.std.specs.Prelude.{slice_set, slice_index_or}
use Rattle.dc_centre.specs.Outboxes.{OutboxView}
use Rattle.dc_centre.proofs.Rows.{rows_kept, rows_room}
use Rattle.dc_centre.proofs.outbox.Outbox.reserve.Goals as goal

pub returns-in_err-reserve-clause-rows : goal.returns-in_err-reserve-clause-rows
returns-in_err-reserve-clause-rows c =
    let R = c.self.inside.rows.items in
    let rows : map (λ row. row.items) R ≡ c.args.self.now.rows = ap (λ (o : OutboxView). o.rows) c.self.view_is in
    let place = c.from.ensures in
    let long = c.self.invariant in
    let low = c.requires.0 in
    let high = c.requires.1 in
    let within : c.from.result < length R = omega (arith, place, long, low, high) in
    rows_kept R c.from.result c.index_mut.result.now c.reserve.new.self within (λ row. row.items) (c.reserve.ensures.items ∙ ap (λ row. row.items) c.index_mut.ensures.value) ∙ rows

pub returns-clause-rows : goal.returns-clause-rows
returns-clause-rows c =
    let R = c.self.inside.rows.items in
    let rows : map (λ row. row.items) R ≡ c.args.self.now.rows = ap (λ (o : OutboxView). o.rows) c.self.view_is in
    let place = c.from.ensures in
    let long = c.self.invariant in
    let low = c.requires.0 in
    let high = c.requires.1 in
    let within : c.from.result < length R = omega (arith, place, long, low, high) in
    rows_kept R c.from.result c.index_mut.result.now c.reserve.new.self within (λ row. row.items) (c.reserve.ensures.items ∙ ap (λ row. row.items) c.index_mut.ensures.value) ∙ rows

pub returns-clause-room : goal.returns-clause-room
returns-clause-room c =
    let R = c.self.inside.rows.items in
    let rows : map (λ row. row.items) R ≡ c.args.self.now.rows = ap (λ (o : OutboxView). o.rows) c.self.view_is in
    let place = c.from.ensures in
    let long = c.self.invariant in
    let low = c.requires.0 in
    let high = c.requires.1 in
    let within : c.from.result < length R = omega (arith, place, long, low, high) in
    let ok = c.in_ok-reserve.ensures.ok in
    let len = c.in_ok-reserve.ensures.len in
    subst (λ p. 1 ≤ slice_index_or (map (λ row. deque_capacity row - deque_len row) (slice_set R c.from.result c.reserve.new.self)) p 0) place
    (rows_room R c.from.result c.index_mut.result.now c.reserve.new.self within (λ row. deque_capacity row - deque_len row) (omega (arith, ok, len)))
