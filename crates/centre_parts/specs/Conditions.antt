-- The conditions on the parts of a centre, and which of them parts break first.
use Rattle.std.specs.Prelude.{◌≡◌, ◌≤◌, ◌==◌, ℕ, cond, Option, Some, None, List, [], ◌∷◌, ◌++◌, length, All}
use Rattle.list_core.specs.Apart.{Apart}
use Rattle.ids_core.specs.declared.limits.TheConstants.{MOST_CENTRES, MOST_RECORDS, MOST_UPDATES}
use Rattle.vv_core.specs.Vectors.{at}
use Rattle.tx_core.specs.declared.part.RestPart.{RestPart}
use Rattle.dc_talk.specs.declared.settings.Settings.{Settings}
use Rattle.dup_guard.specs.declared.noted.Noted.{Noted}
use Rattle.dup_guard.specs.Parts as guard
use Rattle.check_point.specs.PointParts.{AscendByClient, AscendByObject}
use Rattle.k_stable.specs.Tables.{Table, IsTable, stable_of, all_known_of}
use Rattle.join_bundle.specs.Conditions.{IsCentre, IsOver}
use Rattle.centre_parts.specs.declared.condition.Condition.{Condition}
use Rattle.centre_parts.specs.declared.condition.Condition.TheVariants.{Centre, Known, Limit, Widths, Rows, Outbox, Room, MarkOverBase, StableOverMark, KnownOverTrimmed, Notes, NoteStamps, PointClients, PointObjects, RestUpdates, RestDots, RestNumbers}
use Rattle.centre_parts.specs.declared.part.CentreParts.{CentreParts}

-- the centre is one of its centres, and those are few enough
abbrev pub IsMember : Settings → Type 0
IsMember s = IsCentre s.n s.me × (s.n ≤ MOST_CENTRES)

-- vector, base, mark and trimmed have an entry for each centre
pub record AreWide (p : CentreParts) : Type 0 where
  pub vector : length p.applied.vector ≡ p.settings.n
  pub base : length p.applied.point.vector ≡ p.settings.n
  pub mark : length p.mark ≡ p.settings.n
  pub trimmed : length p.trimmed ≡ p.settings.n

-- there is a row for each of n centres, with an entry for each
abbrev pub AreRows : ℕ → List (List ℕ) → Type 0
AreRows n rows = (length rows ≡ n) × All (λ row. length row ≡ n) rows

-- the told table that the rows make
abbrev pub table_of : CentreParts → Table
table_of p = record { me = p.settings.me; n = p.settings.n; k = p.settings.k; rows = p.rows }

-- the rows make a told table, and the vector is as wide
pub record IsTold (p : CentreParts) : Type 0 where
  pub table : IsTable (table_of p)
  pub width : length p.applied.vector ≡ p.settings.n

-- the number that is noted of a client, 0 for none
abbrev pub noted : List Noted → ℕ → ℕ
noted [] client = 0
noted (c ∷ notes) client = cond (c.client == client) c.number (noted notes client)

-- what the condition says of the parts
abbrev pub Meets : Condition → CentreParts → Type 0
Meets Centre p = IsMember p.settings
Meets Known p = IsCentre p.settings.n p.settings.k
Meets Limit p = p.settings.limit ≤ MOST_RECORDS
Meets Widths p = AreWide p
Meets Rows p = AreRows p.settings.n p.rows
Meets Outbox p = length p.outbox ≡ MOST_CENTRES
Meets Room p = at p.applied.vector p.settings.me ≤ p.settings.limit
Meets MarkOverBase p = IsOver p.mark p.applied.point.vector
Meets StableOverMark p = IsTold p × IsOver (stable_of (table_of p) p.applied.vector) p.mark
Meets KnownOverTrimmed p = IsTold p × IsOver (all_known_of (table_of p) p.applied.vector) p.trimmed
Meets Notes p = guard.AreParts p.applied.notes
Meets NoteStamps p = All (λ c. IsCentre p.settings.n c.stamp.centre) p.applied.notes
Meets PointClients p = AscendByClient p.applied.point.numbers
Meets PointObjects p = AscendByObject p.applied.point.states
Meets RestUpdates p = All (λ r. length r.tx.updates ≤ MOST_UPDATES) p.applied.rest
Meets RestDots p = Apart (λ (r : RestPart). r.tx.dot) p.applied.rest
Meets RestNumbers p = guard.AreParts p.applied.notes × All (λ r. r.tx.dot.number ≤ noted p.applied.notes r.tx.dot.client) p.applied.rest

-- the parts meet all conditions
pub record MeetsAll (p : CentreParts) : Type 0 where
  pub meets : (condition : Condition) → Meets condition p

-- all conditions, in the order in which they are tested
abbrev pub order : List Condition
order =
    Centre ∷ Known ∷ Limit ∷ Widths ∷ Rows ∷ Outbox ∷ Room ∷ MarkOverBase ∷ StableOverMark ∷ KnownOverTrimmed
    ∷ Notes ∷ NoteStamps ∷ PointClients ∷ PointObjects ∷ RestUpdates ∷ RestDots ∷ RestNumbers ∷ []

-- the parts break the condition, and meet all before it in this order
pub record IsFirstBroken (p : CentreParts) (condition : Condition) : Type 0 where
  pub before : List Condition
  pub after : List Condition
  pub place : order ≡ before ++ condition ∷ after
  pub met : All (λ other. Meets other p) before
  pub broken : Meets condition p → ⊥

-- the condition is the first that the parts break, or there is none and they meet all
abbrev pub IsBroken : CentreParts → Option Condition → Type 0
IsBroken p None = MeetsAll p
IsBroken p (Some condition) = IsFirstBroken p condition
