-- How a pass without news comes to the deeds of each route and of each detour.
use Rattle.std.proofs.Common.{◌≡◌, ◌≢◌, ◌≤◌, ℕ, ◌&&◌, false, not, ◌==◌, ⊎_elim, List, [], ◌∷◌, ◌++◌, map, Option, sym, ap, ◌∙◌, subst, arith}
use Rattle.std.specs.Prelude.{All, filter, flat_map}
use Rattle.std.specs.List.{list_any}
use Rattle.std.proofs.lemmas.Bool.{ne_eqb, and_from}
use Rattle.std.proofs.lemmas.List.{append_assoc}
use Rattle.std.proofs.lemmas.List.Elements.{All-head, All-tail}
use Rattle.list_core.specs.Members.{In}
use Rattle.list_core.proofs.Members.{In_filter, In_map, In_flat_map}
use Rattle.list_core.proofs.Ranges.{In_range}
use Rattle.vv_core.specs.Vectors.{centres}
use Rattle.dc_talk.specs.declared.log.Deed.{Deed}
use Rattle.dc_talk.specs.declared.line.ShipEnd.{ShipEnd}
use Rattle.script_core.specs.Carrying.{Route, route, routes, Detour, detour, detours, Ships, Relays, InTurn, next_turn, Passes, is_news}
use Rattle.dc_worker.specs.Settled.{Centres}
use Rattle.dc_worker.proofs.Repeating.{Runs, EndsWell, Both, BothWell, BothRun, IsRoute, IsDetour, Repeatable, parts_quiet, routes_between, detours_between, twice_turns, twice_ships, twice_relays}

-- ---- turns

-- the deeds of one turn, none of which is news, with how the run goes on at them
pub record IsReached {X : Type 0} (c last : Centres) (actor : ℕ) (Do : X → List Deed → Type 0) (x : X) : Type 0 where
  pub deeds : List Deed
  pub left : List Deed
  pub does : Do x deeds
  pub quiet : list_any is_news deeds ≡ false
  pub run : Runs c last actor (deeds ++ left)

-- two runs that are one
abbrev pub both_of : Centres → ℕ → Both
both_of last actor = record { first = last; later = last; one = actor; two = actor }

-- each turn is reached
turn_reached : {X : Type 0} (c last : Centres) (actor : ℕ) (Is : X → Type 0) (Do : X → List Deed → Type 0) → Repeatable c (both_of last actor) Is Do → (xs : List X) (ds rest : List Deed) → All Is xs → list_any is_news ds ≡ false → InTurn Do xs ds → BothRun c (both_of last actor) (ds ++ rest) (ds ++ rest) → (x : X) → In x xs → IsReached c last actor Do x
turn_reached c last actor Is Do each [] ds rest all quiet turns run x at = absurd at
turn_reached {X} c last actor Is Do each (y ∷ ys) ds rest all quiet (next_turn front back is does turns) run x at = ⊎_elim
    (λ same. record { deeds = front; left = back ++ rest; does = subst (λ y. Do y front) (sym same) does; quiet = news.0; run = begun.first })
    (λ later. turn_reached c last actor Is Do each ys back rest (All-tail Is y ys all) news.1 turns (each y front front (back ++ rest) (back ++ rest) (All-head Is y ys all) news.0 does does begun).run x later)
    at
  where
    news : (list_any is_news front ≡ false) × (list_any is_news back ≡ false)
    news = parts_quiet front back (ap (list_any is_news) (sym is) ∙ quiet)

    begun : BothRun c (both_of last actor) (front ++ (back ++ rest)) (front ++ (back ++ rest))
    begun = subst (λ all. BothRun c (both_of last actor) all all) (ap (λ all. all ++ rest) is ∙ append_assoc front back rest) run

-- ---- a pass

-- the deeds of a delivery, and of a relay, however it ends
abbrev pub ShipDeeds : Route → List Deed → Type 0
ShipDeeds r deeds = (end : Option ShipEnd) × Ships r deeds end

abbrev pub RelayDeeds : Detour → List Deed → Type 0
RelayDeeds t deeds = (end : Option ShipEnd) × Relays t deeds end

module _ (c last : Centres) (actor : ℕ) (deeds : List Deed) (well : EndsWell c last) (pass : Passes c.n deeds) (quiet : list_any is_news deeds ≡ false) (run : Runs c last actor (deeds ++ [])) where
  both_well : BothWell c (both_of last actor)
  both_well = record { first = well; later = well }

  news : (list_any is_news pass.ships ≡ false) × (list_any is_news (pass.relays ++ pass.tells) ≡ false)
  news = parts_quiet pass.ships (pass.relays ++ pass.tells) (ap (list_any is_news) (sym pass.whole) ∙ quiet)

  -- both runs at the deliveries, with the relays and what follows
  at_ships : BothRun c (both_of last actor) (pass.ships ++ ((pass.relays ++ pass.tells) ++ [])) (pass.ships ++ ((pass.relays ++ pass.tells) ++ []))
  at_ships = subst (λ all. BothRun c (both_of last actor) all all) (ap (λ all. all ++ []) pass.whole ∙ append_assoc pass.ships (pass.relays ++ pass.tells) []) (record { first = run; later = run })

  -- and at the relays
  at_relays : BothRun c (both_of last actor) (pass.relays ++ (pass.tells ++ [])) (pass.relays ++ (pass.tells ++ []))
  at_relays = subst (λ all. BothRun c (both_of last actor) all all) (append_assoc pass.relays pass.tells [])
      (twice_turns c (both_of last actor) (IsRoute c) ShipDeeds (twice_ships c (both_of last actor) both_well) (routes c.n) pass.ships pass.ships ((pass.relays ++ pass.tells) ++ []) ((pass.relays ++ pass.tells) ++ []) (routes_between c) news.0 pass.shipped pass.shipped at_ships).run

  -- the delivery over each route is reached
  pub ship_reached : (r : Route) → In r (routes c.n) → IsReached c last actor ShipDeeds r
  ship_reached = turn_reached c last actor (IsRoute c) ShipDeeds (twice_ships c (both_of last actor) both_well) (routes c.n) pass.ships ((pass.relays ++ pass.tells) ++ []) (routes_between c) news.0 pass.shipped at_ships

  -- so is the relay over each detour
  pub relay_reached : (t : Detour) → In t (detours c.n) → IsReached c last actor RelayDeeds t
  relay_reached = turn_reached c last actor (IsDetour c) RelayDeeds (twice_relays c (both_of last actor) both_well) (detours c.n) pass.relays (pass.tells ++ []) (detours_between c) (parts_quiet pass.relays pass.tells news.1).0 pass.relayed at_relays

-- ---- routes and detours

-- two different ones of n centres
apart_in : (n i j : ℕ) → 1 ≤ j → j ≤ n → i ≢ j → In j (filter (λ j. not (i == j)) (centres n))
apart_in n i j low high apart = In_filter (λ j. not (i == j)) (centres n) j (In_range 1 n j low (omega (arith, high))) (ap not (ne_eqb i j apart))

-- each route between two of n centres is one of all
pub route_in : (n i j : ℕ) → 1 ≤ i → i ≤ n → 1 ≤ j → j ≤ n → i ≢ j → In (route i j) (routes n)
route_in n i j low high least most apart =
    In_flat_map (λ i. map (route i) (filter (λ j. not (i == j)) (centres n))) (centres n) i (route i j) (In_range 1 n i low (omega (arith, high)))
    (In_map (route i) (filter (λ j. not (i == j)) (centres n)) j (apart_in n i j least most apart))

-- so is each detour over three
pub detour_in : (n i o j : ℕ) → (1 ≤ i) × (i ≤ n) → (1 ≤ o) × (o ≤ n) → (1 ≤ j) × (j ≤ n) → i ≢ o → i ≢ j → o ≢ j → In (detour i o j) (detours n)
detour_in n i o j from over to first last other =
    In_flat_map (λ i. flat_map (λ o. map (detour i o) (filter (λ j. not (i == j) && not (o == j)) (centres n))) (filter (λ o. not (i == o)) (centres n))) (centres n) i (detour i o j) (In_range 1 n i from.0 (let high = from.1 in omega (arith, high)))
    (In_flat_map (λ o. map (detour i o) (filter (λ j. not (i == j) && not (o == j)) (centres n))) (filter (λ o. not (i == o)) (centres n)) o (detour i o j) (apart_in n i o over.0 over.1 first)
    (In_map (detour i o) (filter (λ j. not (i == j) && not (o == j)) (centres n)) j
    (In_filter (λ j. not (i == j) && not (o == j)) (centres n) j (In_range 1 n j to.0 (let high = to.1 in omega (arith, high))) (and_from (not (i == j)) (not (o == j)) (ap not (ne_eqb i j last)) (ap not (ne_eqb o j other))))))
