-- A log that can be folded on, from whatever point it stands beside.
use Rattle.std.specs.Prelude.{◌<◌}
use Rattle.list_core.specs.Members.{In}
use Rattle.list_core.specs.Apart.{Apart}
use Rattle.op_log.specs.declared.logged.Logged.{Logged}
use Rattle.op_log.specs.Logs.{LogView}

-- its transactions have different numbers, all below that of the next one, and different dots
pub record IsKeptLog (kept : LogView) : Type 0 where
  pub apart : Apart (λ (x : Logged). x.number) kept.items
  pub below : (x : Logged) → In x kept.items → x.number < kept.appended
  pub dots : Apart (λ (x : Logged). x.tx.dot) kept.items
