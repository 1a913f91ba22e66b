-- Which lines are those of looks.
use Rattle.std.specs.Prelude.{ℕ, Option, Some, None}
use Rattle.ids_core.specs.declared.object.ObjectId.{ObjectId}
use Rattle.dc_talk.specs.declared.seen.Seen.{Seen}
use Rattle.dc_talk.specs.declared.line.Line.{Line}
use Rattle.dc_talk.specs.declared.line.Line.TheVariants as line

-- what a client saw of an object through the tap of a centre
pub record Looked : Type 0 where
  pub client : ℕ
  pub centre : ℕ
  pub object : ObjectId
  pub seen : Seen

-- the look that a line tells, where it tells one
abbrev pub look_told : Line → Option Looked
look_told (line.Look client centre object seen) = Some (record { client = client; centre = centre; object = object; seen = seen })
look_told _ = None
