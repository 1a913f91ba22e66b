use Rattle.std.proofs.Common.{◌≡◌, ◌++◌, map}
use Rattle.phase_actors.specs.declared.callers.Caller.{Caller}
use Rattle.thread_run.proofs.casting.callers_of.Given as goal

abbrev pub invariant-logs : goal.invariant-logs
invariant-logs l = record {
  rows_are : map (λ (caller : Caller). caller.row) l.callers.items ++ l.rows.items ≡ l.fn.rows.items;
  logs_are : map (λ (caller : Caller). caller.log) l.callers.items ≡ l.yielded;
}
