-- The logs of the benchmarks.
use Rattle.std.specs.Prelude.{◌<◌, ℕ, List}
use Rattle.list_core.specs.Members.{In}
use Rattle.op_log.specs.declared.logged.Logged.{Logged}

-- each transaction in a log has a smaller number
abbrev pub IsBelow : ℕ → List Logged → Type 0
IsBelow n items = (x : Logged) → In x items → x.tx.dot.number < n
