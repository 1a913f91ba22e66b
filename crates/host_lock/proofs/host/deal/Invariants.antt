use Rattle.std.proofs.Common.{◌≡◌, true}
use Rattle.host_lock.specs.Hosts.{fresh_passes, host_view}
use Rattle.host_lock.proofs.host.deal.Given as goal

abbrev pub invariant-loop-i : goal.invariant-loop-i
invariant-loop-i g l =
    let was = l.fn.maker.me.0 in let v = l.maker.me.0 in
    (l.maker.table_id ≡ l.shared.table_id) × (v.makes ≡ true) × (v.drawn ≡ l.i) × (v.most ≡ was.most) × (v.settings ≡ was.settings) × (v.opening ≡ was.opening)
    × (l.passes.items ≡ fresh_passes (host_view l.shared.table_id was l.fn.callers) l.i)
