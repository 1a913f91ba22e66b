-- The parts of a bundle, from those of the centre that gives it.
use Rattle.std.specs.Prelude.{ℕ, List, map}
use Rattle.dup_guard.specs.declared.noted.Noted.{Noted}
use Rattle.k_stable.specs.Tables.{rows_of}
use Rattle.check_point.specs.declared.part.Folded.{Folded}
use Rattle.check_point.specs.Points.{number_in}
use Rattle.check_point.specs.PointParts.{number_entries}
use Rattle.join_bundle.specs.declared.part.ClientPart.{ClientPart}
use Rattle.join_bundle.specs.declared.part.BundleParts.{BundleParts}
use Rattle.centre_parts.specs.declared.part.CentreParts.{CentreParts}
use Rattle.centre_parts.specs.Conditions.{table_of}

-- the greatest number of a client that is folded, 0 for none
abbrev pub folded_in : List Folded → ℕ → ℕ
folded_in numbers client = number_in (number_entries numbers) client

-- the part of a client that is noted
abbrev pub client_part : List Folded → Noted → ClientPart
client_part numbers note = record { client = note.client; number = note.number; stamp = note.stamp; folded = folded_in numbers note.client }

-- the parts of all clients that are noted
abbrev pub client_parts : List Noted → List Folded → List ClientPart
client_parts notes numbers = map (client_part numbers) notes

-- the bundle of a centre with these parts, which adopted none: what it keeps, with its own vector for its own row, but
-- for what it has to hand on
abbrev pub given_of : CentreParts → BundleParts
given_of p = record {
  donor = p.settings.me;
  depth = 0;
  vector = p.applied.vector;
  rows = rows_of (table_of p) p.applied.vector;
  base = p.applied.point.vector;
  mark = p.mark;
  folded = p.applied.point.folded;
  top = p.applied.top;
  clients = client_parts p.applied.notes p.applied.point.numbers;
  states = p.applied.point.states;
  rest = p.applied.rest;
}
