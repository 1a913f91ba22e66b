-- The asks of the operator's steps go to centres that there are, and a carrier may ask them.
use Rattle.std.proofs.Common.{◌≡◌, ℕ, ◌-◌, inl, inr, Bool, true, false, ◌==◌, List, [], ◌∷◌, ◌++◌, map, Option, None, Some, refl, sym, subst, arith}
use Rattle.std.specs.Prelude.{MatchBool, All, filter, flat_map, not, ◌&&◌}
use Rattle.std.proofs.lemmas.List.Elements.{All-nil, All-append, All-head, All-tail}
use Rattle.list_core.specs.Members.{In}
use Rattle.list_core.proofs.Members.{In_from_map, In_from_flat_map, In_from_filter}
use Rattle.list_core.proofs.Ranges.{In_from_range}
use Rattle.vv_core.specs.Vectors.{centres}
use Rattle.dc_talk.specs.declared.sent.Sent.{Sent}
use Rattle.dc_talk.specs.declared.ask.Ask.{Ask}
use Rattle.dc_talk.specs.declared.ask.Ask.TheVariants.{Send, Stop, Start, Report, Learn, Prune as PruneAsk}
use Rattle.dc_talk.specs.declared.say.Say.{Say}
use Rattle.dc_talk.specs.declared.say.Say.TheVariants.{Records, Vector}
use Rattle.dc_talk.specs.declared.log.Fate.TheVariants.{Unheard}
use Rattle.dc_talk.specs.declared.log.Deed.{Deed}
use Rattle.dc_talk.specs.declared.log.Deed.TheVariants.{Asked}
use Rattle.dc_talk.specs.declared.line.ShipEnd.{ShipEnd}
use Rattle.dc_talk.specs.declared.line.Line.{Line}
use Rattle.dc_talk.specs.Logs.{marked}
use Rattle.script_core.specs.declared.steps.OperatorStep.{OperatorStep}
use Rattle.script_core.specs.declared.steps.OperatorStep.TheVariants.{Down, Up, ShipOne, Ship, Relay, Tell, Prune, Link, Settle, Feed}
use Rattle.script_core.specs.Steps.{IsCount, IsOperatorStep}
use Rattle.script_core.specs.Deeds.{told}
use Rattle.script_core.specs.Carrying.{Route, route, Detour, detour, detours, routes, ship_line, relay_line, is_there, delivery_end, Delivers, AfterSend, Sends, AfterReport, Supplies, own_need, origin_need, Ships, Relays, AfterTold, Tells, InTurn, no_turn, next_turn, Passes, Settles, last_pass, one_pass}
use Rattle.script_core.specs.Orders.{base_line, OperatorDeeds}
use Rattle.script_core.specs.Provenance.{Carries, CarriesAll}
use Rattle.script_core.proofs.Provenance.{carries_both, sends_carry, ships_carry, relays_carry, tells_carry, settles_carry}
use Rattle.run_book.specs.Setups.{Setup}
use Rattle.run_book.specs.Happenings.{Happened, trails_in, happening, GoesToOneOf, CarrierDoes, AreHistories, AreTogether}
use Rattle.run_book.proofs.Happenings.More.{operator_carries}
use Rattle.run_book.proofs.Happenings.Reach.{AllGo, one_go, told_go}
use Rattle.run_book.proofs.Happenings.Feeding.{feed_each}
use Rattle.run_book.proofs.Happenings.Carrying.{deeds_do}

-- ---- which centres are asked

module _ (n : ℕ) where
  -- the route is between centres that there are
  abbrev pub IsWithin : Route → Type 0
  IsWithin r = IsCount n r.from × IsCount n r.to

  -- no deeds
  pub none_go : (deeds : List Deed) → deeds ≡ [] → AllGo n deeds
  none_go deeds none = subst (AllGo n) (sym none) (All-nil (GoesToOneOf n))

  -- an ask, and what follows it
  pub ask_go : (i : ℕ) (ask : Ask) (say : Say) (later deeds : List Deed) → IsCount n i → deeds ≡ Asked i ask (Unheard say) ∷ later → AllGo n later → AllGo n deeds
  ask_go i ask say later deeds range whole rest = subst (AllGo n) (sym whole) (one_go n (Asked i ask (Unheard say)) later range rest)

  -- asks, and a line
  line_go : (asks : List Deed) (line : Option Line) (deeds : List Deed) → deeds ≡ asks ++ told line → AllGo n asks → AllGo n deeds
  line_go asks line deeds whole go = subst (AllGo n) (sym whole) (All-append (GoesToOneOf n) asks (told line) go (told_go n line))

  -- deliveries, and what leads to them
  delivers_go : (to : ℕ) (items : List Sent) (last : Option ShipEnd) (deeds : List Deed) (end : Option ShipEnd) → IsCount n to → Delivers to items last deeds end → AllGo n deeds
  delivers_go to [] last deeds end range is = none_go deeds is.0
  delivers_go to (item ∷ items) last [] end range is = absurd is
  delivers_go to (item ∷ items) last (deed ∷ deeds) end range (say, asks, rest) =
      one_go n deed deeds (subst (GoesToOneOf n) (sym asks) range) (go (is_there say) rest (delivers_go to items (delivery_end to item.item say) deeds end range))
    where
      go : (test : Bool) → MatchBool test (Delivers to items (delivery_end to item.item say) deeds end) ((deeds ≡ []) × (end ≡ delivery_end to item.item say)) → (Delivers to items (delivery_end to item.item say) deeds end → AllGo n deeds) → AllGo n deeds
      go true more each = each more
      go false none each = none_go deeds none.0

  after_send_go : (r : Route) (last : Option ShipEnd) (say : Say) (deeds : List Deed) (end : Option ShipEnd) → IsWithin r → AfterSend r last say deeds end → AllGo n deeds
  after_send_go r last (Records list) deeds end within is = delivers_go r.to list last deeds end within.1 is
  after_send_go r last say deeds end within is = none_go deeds is.0

  sends_go : (r : Route) (last : Option ShipEnd) (ask : Ask) (deeds : List Deed) (end : Option ShipEnd) → IsWithin r → Sends r last ask deeds end → AllGo n deeds
  sends_go r last ask deeds end within is = ask_go r.from ask is.say is.later deeds within.0 is.whole (after_send_go r last is.say is.later end within is.follows)

  after_report_go : (r : Route) (need : List ℕ → Ask) (say : Say) (deeds : List Deed) (end : Option ShipEnd) → IsWithin r → AfterReport r need say deeds end → AllGo n deeds
  after_report_go r need (Vector vector) deeds end within is = sends_go r None (need vector) deeds end within is
  after_report_go r need say deeds end within is = none_go deeds is.0

  supplies_go : (r : Route) (need : List ℕ → Ask) (deeds : List Deed) (end : Option ShipEnd) → IsWithin r → Supplies r need deeds end → AllGo n deeds
  supplies_go r need deeds end within is = ask_go r.to Report is.say is.later deeds within.1 is.whole (after_report_go r need is.say is.later end within is.follows)

  -- what is told
  after_told_go : (r : Route) (say : Say) (deeds : List Deed) (line : Option Line) → IsWithin r → AfterTold r say deeds line → AllGo n deeds
  after_told_go r (Vector vector) deeds line within is = ask_go r.to (Learn r.from vector) is.0 [] deeds within.1 is.1 (All-nil (GoesToOneOf n))
  after_told_go r say deeds line within is = none_go deeds is.0

  pub tells_go : (r : Route) (deeds : List Deed) (line : Option Line) → IsWithin r → Tells r deeds line → AllGo n deeds
  tells_go r deeds line within is = ask_go r.from Report is.say is.later deeds within.0 is.whole (after_told_go r is.say is.later line within is.follows)

  -- the deeds of each in turn
  pub turns_go : {X : Type 0} (Does : X → List Deed → Type 0) (xs : List X) (deeds : List Deed) → ((x : X) (deeds : List Deed) → In x xs → Does x deeds → AllGo n deeds) → InTurn Does xs deeds → AllGo n deeds
  turns_go Does [] deeds each no_turn = All-nil (GoesToOneOf n)
  turns_go Does (x ∷ xs) deeds each (next_turn first later whole does rest) = subst (AllGo n) (sym whole) (All-append (GoesToOneOf n) first later (each x first (inl refl) does) (turns_go Does xs later (λ y ds there. each y ds (inr there)) rest))

  -- each route of a settling is within
  routes_within : (r : Route) → In r (routes n) → IsWithin r
  routes_within r there =
      let from = In_from_flat_map (λ i. map (route i) (filter (λ j. not (i == j)) (centres n))) (centres n) r there in
      let to = In_from_map (route from.0) (filter (λ j. not (from.0 == j)) (centres n)) r from.2 in
      let low = In_from_range 1 n from.0 from.1 in
      let high = In_from_range 1 n to.0 (In_from_filter (λ j. not (from.0 == j)) (centres n) to.0 to.1).0 in
      subst IsWithin (sym to.2) ((low.0, omega (arith, low.1)), (high.0, omega (arith, high.1)))

  -- each detour too
  detours_within : (t : Detour) → In t (detours n) → IsWithin (route t.from t.to)
  detours_within t there =
      let from = In_from_flat_map (λ i. flat_map (λ o. map (detour i o) (filter (λ j. not (i == j) && not (o == j)) (centres n))) (filter (λ o. not (i == o)) (centres n))) (centres n) t there in
      let over = In_from_flat_map (λ o. map (detour from.0 o) (filter (λ j. not (from.0 == j) && not (o == j)) (centres n))) (filter (λ o. not (from.0 == o)) (centres n)) t from.2 in
      let to = In_from_map (detour from.0 over.0) (filter (λ j. not (from.0 == j) && not (over.0 == j)) (centres n)) t over.2 in
      let low = In_from_range 1 n from.0 from.1 in
      let high = In_from_range 1 n to.0 (In_from_filter (λ j. not (from.0 == j) && not (over.0 == j)) (centres n) to.0 to.1).0 in
      subst (λ (t : Detour). IsWithin (route t.from t.to)) (sym to.2) ((low.0, omega (arith, low.1)), (high.0, omega (arith, high.1)))

  passes_go : (deeds : List Deed) → Passes n deeds → AllGo n deeds
  passes_go deeds is = subst (AllGo n) (sym is.whole) (All-append (GoesToOneOf n) is.ships (is.relays ++ is.tells)
      (turns_go (λ r deeds. (end : Option ShipEnd) × Ships r deeds end) (routes n) is.ships (λ r deeds there does. supplies_go r (own_need r) deeds does.0 (routes_within r there) does.1) is.shipped)
      (All-append (GoesToOneOf n) is.relays is.tells
      (turns_go (λ t deeds. (end : Option ShipEnd) × Relays t deeds end) (detours n) is.relays (λ t deeds there does. supplies_go (route t.from t.to) (origin_need t) deeds does.0 (detours_within t there) does.1) is.relayed)
      (turns_go (λ r deeds. (line : Option Line) × Tells r deeds line) (routes n) is.tells (λ r deeds there does. tells_go r deeds does.0 (routes_within r there) does.1) is.told_all)))

  settles_go : (deeds : List Deed) → Settles n deeds → AllGo n deeds
  settles_go deeds (last_pass passed none) = passes_go deeds passed
  settles_go deeds (one_pass first later whole passed some rest) = subst (AllGo n) (sym whole) (All-append (GoesToOneOf n) first later (passes_go first passed) (settles_go later rest))

  -- the asks of the operator's step go to centres that there are
  pub order_go : (step : OperatorStep) (deeds : List Deed) → IsOperatorStep n step → OperatorDeeds n step deeds → AllGo n deeds
  order_go (Down centre) deeds is are = ask_go centre Stop are.0 [] deeds is are.1 (All-nil (GoesToOneOf n))
  order_go (Up centre) deeds is are = ask_go centre Start are.0 [] deeds is are.1 (All-nil (GoesToOneOf n))
  order_go (ShipOne from to seq) deeds is are = line_go are.asks (ship_line (route from to) are.end) deeds are.whole (sends_go (route from to) _ _ are.asks are.end (is.0.from_there, is.0.to_there) are.sends)
  order_go (Ship from to) deeds is are = line_go are.asks (ship_line (route from to) are.end) deeds are.whole (supplies_go (route from to) (own_need (route from to)) are.asks are.end (is.from_there, is.to_there) are.ships)
  order_go (Relay from origin to) deeds is are = line_go are.asks (relay_line (detour from origin to) are.end) deeds are.whole (supplies_go (route from to) (origin_need (detour from origin to)) are.asks are.end (is.from_there, is.to_there) are.relays)
  order_go (Tell from to) deeds is are = line_go are.asks are.line deeds are.whole (tells_go (route from to) are.asks are.line (is.from_there, is.to_there) are.tells)
  order_go (Prune centre) deeds is are = ask_go centre PruneAsk are.answer (told (base_line centre are.answer)) deeds is are.whole (told_go n (base_line centre are.answer))
  order_go (Link from to fault) deeds is are = none_go deeds are
  order_go Settle deeds is are = settles_go deeds are
  order_go (Feed centre) deeds is are = feed_each (GoesToOneOf n) centre (λ say. is) (λ vector object say. is) (λ fed. tt) are.0 deeds are.1

-- ---- what is carried

-- a line carries nothing
line_carries : (asks : List Deed) (line : Option Line) (deeds : List Deed) → deeds ≡ asks ++ told line → CarriesAll [] asks → CarriesAll [] deeds
line_carries asks line deeds whole carries = subst (CarriesAll []) (sym whole) (carries_both asks (told line) carries (nothing line))
  where
    nothing : (line : Option Line) → CarriesAll [] (told line)
    nothing None = tt
    nothing (Some line) = (tt, tt)

-- a deed that carries nothing, whatever was brought before it
abbrev CarriesNothing : Deed → Type 0
CarriesNothing deed = (before : List Deed) → Carries before deed

each_carries : (deeds before : List Deed) → All CarriesNothing deeds → CarriesAll before deeds
each_carries [] before all = tt
each_carries (deed ∷ deeds) before all = (All-head CarriesNothing deed deeds all before, each_carries deeds (before ++ deed ∷ []) (All-tail CarriesNothing deed deeds all))

-- the operator's step carries what its own asks brought
pub order_carries : (n : ℕ) (step : OperatorStep) (deeds : List Deed) → OperatorDeeds n step deeds → CarriesAll [] deeds
order_carries n (Down centre) deeds are = subst (CarriesAll []) (sym are.1) (tt, tt)
order_carries n (Up centre) deeds are = subst (CarriesAll []) (sym are.1) (tt, tt)
order_carries n (ShipOne from to seq) deeds are = line_carries are.asks (ship_line (route from to) are.end) deeds are.whole (sends_carry [] (route from to) _ (Send (seq - 1) 1) are.asks are.end (λ say. tt) are.sends)
order_carries n (Ship from to) deeds are = line_carries are.asks (ship_line (route from to) are.end) deeds are.whole (ships_carry (route from to) are.asks are.end are.ships)
order_carries n (Relay from origin to) deeds are = line_carries are.asks (relay_line (detour from origin to) are.end) deeds are.whole (relays_carry (detour from origin to) are.asks are.end are.relays)
order_carries n (Tell from to) deeds are = line_carries are.asks are.line deeds are.whole (tells_carry (route from to) are.asks are.line are.tells)
order_carries n (Prune centre) deeds are = line_carries (Asked centre PruneAsk (Unheard are.answer) ∷ []) (base_line centre are.answer) deeds are.whole (tt, tt)
order_carries n (Link from to fault) deeds are = subst (CarriesAll []) (sym are) tt
order_carries n Settle deeds are = settles_carry n deeds are
order_carries n (Feed centre) deeds are = each_carries deeds [] (feed_each CarriesNothing centre (λ say before. tt) (λ vector object say before. tt) (λ fed before. tt) are.0 deeds are.1)

-- so the operator does it as a carrier, where the trails with it are histories
pub order_does : (n k : ℕ) (setup : Setup) (all : List Happened) (step : OperatorStep) (section place : ℕ) (deeds : List Deed) → AreTogether n k setup all → AreHistories n k setup (all ++ happening 1 (map (marked section place) deeds)) → IsOperatorStep n step → OperatorDeeds n step deeds → CarrierDoes 1 (trails_in all) (map (marked section place) deeds)
order_does n k setup all step section place deeds t histories is are = deeds_do n k setup 1 (operator_carries n setup.clients) all section place deeds t histories (order_go n step deeds is are) (order_carries n step deeds are)
