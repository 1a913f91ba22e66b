-- The order of places.
use Rattle.std.specs.Prelude.{ℕ, Bool, List, refl}
use Rattle.std.specs.Ordering.{on, then_cmp, eq_by_cmp}
use Rattle.std.specs.declared.cmp.Ordering.{Ordering}
use Rattle.std.specs.Coded.{Coded, code_by, coded×, coded_ℕ, coded_list}
use Rattle.ids_core.specs.declared.ids.OpId.{OpId}
use Rattle.ids_core.specs.Orders.{name_cmp, id_cmp}
use Rattle.tally_core.specs.declared.place.Place.{Place}

-- the place of an identifier under a name
abbrev pub place : List ℕ → OpId → Place
place name id = record { name = name; id = id }

-- by name, then identifier
abbrev pub place_cmp : Place → Place → Ordering
place_cmp = then_cmp (on (λ p. p.name) name_cmp) (on (λ p. p.id) id_cmp)

-- the least identifier
abbrev pub least_id : OpId
least_id = record { dot = record { client = 0; number = 0 }; place = 0 }

-- one name
abbrev pub same_name : List ℕ → List ℕ → Bool
same_name = eq_by_cmp name_cmp

-- one identifier
abbrev pub same_id : OpId → OpId → Bool
same_id = eq_by_cmp id_cmp

-- an identifier is stored as its numbers
abbrev pub id_code : Coded OpId
id_code = code_by ((ℕ × ℕ) × ℕ) (coded× (coded× coded_ℕ coded_ℕ) coded_ℕ) (λ i. ((i.dot.client, i.dot.number), i.place)) (λ p. record { dot = record { client = p.0.0; number = p.0.1 }; place = p.1 }) (λ _. refl)

-- a place is stored as its name and its identifier
abbrev pub place_code : Coded Place
place_code = code_by (List ℕ × OpId) (coded× (coded_list coded_ℕ) id_code) (λ p. (p.name, p.id)) (λ p. record { name = p.0; id = p.1 }) (λ _. refl)
