-- A centre taken apart.
use Rattle.std.specs.Prelude.{◌≡◌, ◌≤◌, length, All}
use Rattle.ids_core.specs.declared.limits.TheConstants.{MOST_CENTRES}
use Rattle.vv_core.specs.Vectors.{Covers}
use Rattle.dup_guard.specs.Parts as guard
use Rattle.op_log.specs.RestParts as log
use Rattle.check_point.specs.PointParts as point
use Rattle.centre_parts.specs.declared.part.AppliedParts.{AppliedParts}
use Rattle.centre_parts.specs.declared.part.CentreParts.{CentreParts}
use Rattle.centre_parts.specs.Conditions.{noted, IsFirstBroken}
use Rattle.dc_centre.specs.declared.parts.Refusal.{Refusal}
use Rattle.dc_centre.specs.declared.parts.Refusal.TheVariants.{Broken, OutOfMemory}
use Rattle.dc_centre.specs.Applied.{AppliedView, IsCentreOf}
use Rattle.dc_centre.specs.Centre.{CentreView}

-- the parts are those of what is kept of the applied records
pub record AreAppliedPartsOf (x : AppliedView) (p : AppliedParts) : Type 0 where
  pub vector : p.vector ≡ x.counts
  pub notes : guard.ArePartsOf x.lasts p.notes
  pub top : p.top ≡ x.greatest
  pub point : point.ArePartsOf x.point p.point
  pub rest : p.rest ≡ log.parts_of x.log.items

-- the parts are those of the centre
pub record ArePartsOf (c : CentreView) (p : CentreParts) : Type 0 where
  pub settings : p.settings ≡ c.settings
  pub applied : AreAppliedPartsOf c.applied p.applied
  pub rows : p.rows ≡ c.told.rows
  pub mark : p.mark ≡ c.mark
  pub trimmed : p.trimmed ≡ c.trimmed
  pub outbox : p.outbox ≡ c.outbox
  pub stopped : p.stopped ≡ c.down

-- parts of which what is kept of applied records can be made
pub record AreAppliedParts (p : AppliedParts) : Type 0 where
  pub width : (1 ≤ length p.vector) × (length p.vector ≤ MOST_CENTRES)
  pub based : length p.point.vector ≡ length p.vector
  pub within : Covers p.vector p.point.vector
  pub notes : guard.AreParts p.notes
  pub stamps : All (λ c. IsCentreOf (length p.vector) c.stamp) p.notes
  pub point : point.AreParts p.point
  pub rest : log.AreParts p.rest
  pub numbers : All (λ r. r.tx.dot.number ≤ noted p.notes r.tx.dot.client) p.rest

-- the condition is the first that the parts break; want of memory has no cause in them
abbrev pub IsCauseFor : CentreParts → Refusal → Type 0
IsCauseFor p (Broken condition) = IsFirstBroken p condition
IsCauseFor p OutOfMemory = Unit {0}
