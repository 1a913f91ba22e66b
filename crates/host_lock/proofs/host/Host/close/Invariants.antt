use Rattle.std.proofs.Common.{◌≡◌, List, true, false, ◌++◌}
use Rattle.host_lock.specs.Law.{spent_of}
use Rattle.host_lock.specs.Hosts.{PassView}
use Rattle.host_lock.proofs.Hosts.{Knows}
use Rattle.host_lock.proofs.host.Host.close.Given as goal

abbrev pub invariant-loop-pass : goal.invariant-loop-pass
invariant-loop-pass g l =
    let v = l.seat.me.0 in
    (l.table ≡ l.initial.table) × (l.seat.table_id ≡ l.fn.self.table) × (v.calls ≡ true) × (v.turns ≡ false)
    × ((done : List (PassView g.row.M-Ask.Denot g.row.M-Say.Denot g.row.M-Settings.Denot)) × (l.fn.passes.items ≡ l.passes.items ++ done) × Knows (spent_of v) v.past done)

abbrev pub decreases-loop-pass : goal.decreases-loop-pass
decreases-loop-pass g l = goal.left-loop-pass g l
