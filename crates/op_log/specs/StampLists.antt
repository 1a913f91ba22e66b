-- How the stamps of a transaction are kept.
use Rattle.std.specs.Prelude.{List, [], ◌∷◌}
use Rattle.vv_core.specs.declared.stamp.Stamp.{Stamp}
use Rattle.op_log.specs.declared.stamp_list.Kept.{Kept}
use Rattle.op_log.specs.declared.stamp_list.Kept.TheVariants.{One, Many}

-- the stamps that are kept so
abbrev pub stamps_kept : Kept → List Stamp
stamps_kept (One stamp) = stamp ∷ []
stamps_kept (Many stamps) = stamps
