-- The identifiers of tags, wherever they stand.
use Rattle.std.specs.Prelude.{List}
use Rattle.std.specs.Arc.{arc_value}
use Rattle.ids_core.specs.declared.ids.OpId.{OpId}
use Rattle.ids_core.specs.declared.tags.TagItems.{TagItems}
use Rattle.ids_core.specs.declared.tags.TagItems.TheVariants.{Own, Shared}

-- the identifiers that stand there, in their order
abbrev pub listed : TagItems → List OpId
listed (Own list) = list.items
listed (Shared list) = (arc_value list).items
