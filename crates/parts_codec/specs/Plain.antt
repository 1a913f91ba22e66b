-- The parts of a centre with their states taken apart, and which plain parts are those of a centre.
use Rattle.std.specs.Prelude.{◌≡◌, All, map}
use Rattle.tx_core.specs.declared.part.StatePart.{StatePart}
use Rattle.tx_core.specs.States.{sort_of}
use Rattle.check_point.specs.declared.part.PointParts.{PointParts}
use Rattle.centre_parts.specs.declared.part.AppliedParts.{AppliedParts}
use Rattle.centre_parts.specs.declared.part.CentreParts.{CentreParts}
use Rattle.state_codec.specs.declared.state.PlainPart.{PlainPart}
use Rattle.state_codec.specs.Plain as state
use Rattle.parts_codec.specs.declared.plain.PlainPoint.{PlainPoint}
use Rattle.parts_codec.specs.declared.plain.PlainApplied.{PlainApplied}
use Rattle.parts_codec.specs.declared.plain.PlainCentre.{PlainCentre}

-- the name of an object, and its state, taken apart
abbrev pub plain_part : StatePart → PlainPart
plain_part part = record { name = part.object.name; state = state.plain_of part.state }

-- a point, with its states taken apart
abbrev pub plain_point : PointParts → PlainPoint
plain_point point = record { vector = point.vector; folded = point.folded; numbers = point.numbers; states = map plain_part point.states }

-- what was applied, likewise
abbrev pub plain_applied : AppliedParts → PlainApplied
plain_applied applied = record { vector = applied.vector; notes = applied.notes; top = applied.top; point = plain_point applied.point; rest = applied.rest }

-- all parts of a centre, likewise
abbrev pub plain_centre : CentreParts → PlainCentre
plain_centre parts = record { settings = parts.settings; applied = plain_applied parts.applied; rows = parts.rows; mark = parts.mark; trimmed = parts.trimmed; outbox = parts.outbox; stopped = parts.stopped }

-- the plain state of an object is that of a state
abbrev pub HasPart : PlainPart → Type 0
HasPart part = state.HasState part.state

-- each plain state of a centre is that of a state
abbrev pub HasParts : PlainCentre → Type 0
HasParts plain = All HasPart plain.applied.point.states

-- the object has a state of its kind
abbrev pub IsOfKind : StatePart → Type 0
IsOfKind part = part.object.sort ≡ sort_of part.state

-- each object of the point has a state of its kind
abbrev pub AreOfKind : CentreParts → Type 0
AreOfKind parts = All IsOfKind parts.applied.point.states
