-- Deliveries, relays and tells over all routes, and how many passes a settling takes.
use Rattle.std.specs.Prelude.{ℕ, suc, ◌==◌, ◌&&◌, not, filter, map, flat_map, List, Option}
use Rattle.vv_core.specs.Vectors.{centres}
use Rattle.dc_talk.specs.declared.line.Line.{Line}
use Rattle.dc_talk.specs.declared.line.ShipEnd.{ShipEnd}
use Rattle.dc_talk.specs.declared.log.Deed.{Deed}
use Rattle.script_core.specs.Carrying.{Route, route, Detour, detour, Ships, Relays, Tells, Settles, last_pass, one_pass}
use Rattle.dc_worker.specs.declared.rounds.Round.{Round}
use Rattle.dc_worker.specs.declared.rounds.Round.TheVariants.{Ship, Tell}

-- what a round does over a route
abbrev pub Does : Round → Route → List Deed → Type 0
Does Ship r deeds = (end : Option ShipEnd) × Ships r deeds end
Does Tell r deeds = (line : Option Line) × Tells r deeds line

-- the routes from a centre to the others of the first n
abbrev pub routes_from : ℕ → ℕ → List Route
routes_from n from = map (route from) (filter (λ to. not (from == to)) (centres n))

-- the routes from the first k centres to the others of the first n
abbrev pub routes_of : ℕ → ℕ → List Route
routes_of n k = flat_map (routes_from n) (centres k)

-- a relay over a detour
abbrev pub DoesRelay : Detour → List Deed → Type 0
DoesRelay t deeds = (end : Option ShipEnd) × Relays t deeds end

-- the detours from a centre of an origin's records to the others of the first k centres
abbrev pub detours_to : ℕ → ℕ → ℕ → List Detour
detours_to from origin k = map (detour from origin) (filter (λ to. not (from == to) && not (origin == to)) (centres k))

-- those of the records of the others of the first k centres, to n
abbrev pub detours_from : ℕ → ℕ → ℕ → List Detour
detours_from n from k = flat_map (λ origin. detours_to from origin n) (filter (λ origin. not (from == origin)) (centres k))

-- those from the first k centres
abbrev pub detours_of : ℕ → ℕ → List Detour
detours_of n k = flat_map (λ from. detours_from n from n) (centres k)

-- how many passes there were
abbrev pub passes_of : {n : ℕ} {deeds : List Deed} → Settles n deeds → ℕ
passes_of (last_pass passed none) = 1
passes_of (one_pass first later whole passed some rest) = suc (passes_of rest)
