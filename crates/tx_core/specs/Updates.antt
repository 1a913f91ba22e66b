-- The updates of a transaction, wherever they stand.
use Rattle.std.specs.Prelude.{List}
use Rattle.std.specs.Arc.{arc_value}
use Rattle.tx_core.specs.declared.tx.Update.{Update}
use Rattle.tx_core.specs.declared.updates.Items.{Items}
use Rattle.tx_core.specs.declared.updates.Items.TheVariants.{Own, Shared}

-- the updates that stand there, in their order
abbrev pub listed : Items → List Update
listed (Own items) = items.items
listed (Shared items) = (arc_value items).items
