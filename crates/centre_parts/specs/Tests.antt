-- The tests of the conditions on the parts of a centre, and the first that parts do not pass.
use Rattle.std.specs.Prelude.{◌==◌, ◌&&◌, ℕ, Bool, not, nat_le, Option, List, length, map}
use Rattle.std.specs.List.{list_all}
use Rattle.std.specs.Ordering.{nat_cmp}
use Rattle.list_core.specs.Firsts.{first_that}
use Rattle.ids_core.specs.declared.limits.TheConstants.{MOST_CENTRES, MOST_CLIENTS, MOST_RECORDS, MOST_UPDATES}
use Rattle.ids_core.specs.Orders.{object_cmp}
use Rattle.vv_core.specs.Vectors.{at}
use Rattle.tx_core.specs.Checks.{is_within}
use Rattle.dc_talk.specs.declared.settings.Settings.{Settings}
use Rattle.dup_guard.specs.declared.noted.Noted.{Noted}
use Rattle.k_stable.specs.Tables.{stable_of, all_known_of}
use Rattle.join_bundle.specs.Tests.{ascends, is_centre, is_over, are_apart}
use Rattle.centre_parts.specs.declared.condition.Condition.{Condition}
use Rattle.centre_parts.specs.declared.condition.Condition.TheVariants.{Centre, Known, Limit, Widths, Rows, Outbox, Room, MarkOverBase, StableOverMark, KnownOverTrimmed, Notes, NoteStamps, PointClients, PointObjects, RestUpdates, RestDots, RestNumbers}
use Rattle.centre_parts.specs.declared.part.CentreParts.{CentreParts}
use Rattle.centre_parts.specs.Conditions.{noted, order, table_of}

-- the centre is one of its centres, and those are few enough
abbrev pub is_member : Settings → Bool
is_member s = is_centre s.n s.me && nat_le s.n MOST_CENTRES

-- vector, base, mark and trimmed have an entry for each centre
abbrev pub are_wide : CentreParts → Bool
are_wide p = (length p.applied.vector == p.settings.n) && ((length p.applied.point.vector == p.settings.n) && ((length p.mark == p.settings.n) && (length p.trimmed == p.settings.n)))

-- there is a row for each of n centres, with an entry for each
abbrev pub are_rows : ℕ → List (List ℕ) → Bool
are_rows n rows = (length rows == n) && list_all (λ row. length row == n) rows

-- the rows make a told table, and the vector is as wide
abbrev pub is_told : CentreParts → Bool
is_told p = is_member p.settings && (is_centre p.settings.n p.settings.k && (are_rows p.settings.n p.rows && (length p.applied.vector == p.settings.n)))

-- a guard can be made of the notes
abbrev pub are_notes : List Noted → Bool
are_notes notes = ascends nat_cmp (map (λ c. c.client) notes) && (list_all (λ c. is_within 1 MOST_CLIENTS c.client) notes && list_all (λ c. nat_le 1 c.number) notes)

-- whether the parts pass the test of the condition
abbrev pub passes : Condition → CentreParts → Bool
passes Centre p = is_member p.settings
passes Known p = is_centre p.settings.n p.settings.k
passes Limit p = nat_le p.settings.limit MOST_RECORDS
passes Widths p = are_wide p
passes Rows p = are_rows p.settings.n p.rows
passes Outbox p = length p.outbox == MOST_CENTRES
passes Room p = nat_le (at p.applied.vector p.settings.me) p.settings.limit
passes MarkOverBase p = is_over p.mark p.applied.point.vector
passes StableOverMark p = is_told p && is_over (stable_of (table_of p) p.applied.vector) p.mark
passes KnownOverTrimmed p = is_told p && is_over (all_known_of (table_of p) p.applied.vector) p.trimmed
passes Notes p = are_notes p.applied.notes
passes NoteStamps p = list_all (λ c. is_centre p.settings.n c.stamp.centre) p.applied.notes
passes PointClients p = ascends nat_cmp (map (λ c. c.client) p.applied.point.numbers)
passes PointObjects p = ascends object_cmp (map (λ s. s.object) p.applied.point.states)
passes RestUpdates p = list_all (λ r. nat_le (length r.tx.updates) MOST_UPDATES) p.applied.rest
passes RestDots p = are_apart p.applied.rest
passes RestNumbers p = are_notes p.applied.notes && list_all (λ r. nat_le r.tx.dot.number (noted p.applied.notes r.tx.dot.client)) p.applied.rest

-- the first condition that the parts do not pass
abbrev pub first_failed : CentreParts → Option Condition
first_failed p = first_that (λ condition. not (passes condition p)) order
