-- The told table that rows make.
use Rattle.std.proofs.Common.{◌≡◌, true, length}
use Rattle.k_stable.specs.Tables.{IsTable}
use Rattle.centre_parts.specs.declared.part.CentreParts.{CentreParts}
use Rattle.centre_parts.specs.Conditions.{table_of}
use Rattle.centre_parts.specs.Tests.{is_told}
use Rattle.centre_parts.proofs.Deciding.{told}

pub told_table : (p : CentreParts) → is_told p ≡ true → IsTable (table_of p)
told_table p h = ((told p).0 h).table

pub told_width : (p : CentreParts) → is_told p ≡ true → length p.applied.vector ≡ p.settings.n
told_width p h = ((told p).0 h).width
