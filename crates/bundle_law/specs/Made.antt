-- The parts of a guard and of a point that a bundle has. Those of a log are the bundle's rest.
use Rattle.std.specs.Prelude.{◌==◌, ℕ, cond, List, [], ◌∷◌, map, Option, Some, None}
use Rattle.dup_guard.specs.declared.noted.Noted.{Noted}
use Rattle.check_point.specs.declared.part.Folded.{Folded}
use Rattle.check_point.specs.declared.part.PointParts.{PointParts}
use Rattle.join_bundle.specs.declared.part.ClientPart.{ClientPart}
use Rattle.join_bundle.specs.declared.part.BundleParts.{BundleParts}

-- what is noted of a client
abbrev pub note_of : ClientPart → Noted
note_of c = record { client = c.client; number = c.number; stamp = c.stamp }

-- the parts of the guard
abbrev pub guard_parts : BundleParts → List Noted
guard_parts p = map note_of p.clients

-- the clients of which a transaction is folded, each with the greatest number of those
abbrev pub folded_numbers : List ClientPart → List Folded
folded_numbers [] = []
folded_numbers (c ∷ clients) = cond (c.folded == 0) (folded_numbers clients) (record { client = c.client; number = c.folded } ∷ folded_numbers clients)

-- the parts of the point
abbrev pub point_parts : BundleParts → PointParts
point_parts p = record { vector = p.base; folded = p.folded; numbers = folded_numbers p.clients; states = p.states }

-- the number that is noted, 0 for none
abbrev pub number_in : Option Noted → ℕ
number_in None = 0
number_in (Some part) = part.number
