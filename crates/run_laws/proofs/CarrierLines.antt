-- The operator and the workers tell no values that were read.
use Rattle.std.proofs.Common.{◌≡◌, ℕ, Bool, true, false, cond, List, [], ◌∷◌, ◌++◌, Option, None, refl, sym, subst}
use Rattle.std.specs.Prelude.{MatchBool, All}
use Rattle.std.specs.List.{cons_option}
use Rattle.std.proofs.lemmas.List.Elements.{All-head, All-tail}
use Rattle.dc_talk.specs.declared.sent.Sent.{Sent}
use Rattle.dc_talk.specs.declared.ask.Ask.{Ask}
use Rattle.dc_talk.specs.declared.ask.Ask.TheVariants.{Stop, Start, Report, Learn, Prune as PruneAsk}
use Rattle.dc_talk.specs.declared.say.Say.{Say}
use Rattle.dc_talk.specs.declared.say.Say.TheVariants.{Base, Down as DownSay, Misfit, Records, Vector}
use Rattle.dc_talk.specs.declared.log.Fate.TheVariants.{Unheard}
use Rattle.dc_talk.specs.declared.log.Deed.{Deed}
use Rattle.dc_talk.specs.declared.log.Deed.TheVariants.{Asked}
use Rattle.dc_talk.specs.declared.links.Arrival.{Arrival}
use Rattle.dc_talk.specs.declared.links.Arrival.TheVariants.{Whole, Spoilt}
use Rattle.dc_talk.specs.declared.line.ShipEnd.{ShipEnd}
use Rattle.dc_talk.specs.declared.line.Line.{Line}
use Rattle.dc_talk.specs.declared.line.Line.TheVariants as line
use Rattle.script_core.specs.declared.steps.OperatorStep.{OperatorStep}
use Rattle.script_core.specs.declared.steps.OperatorStep.TheVariants.{Down, Up, ShipOne, Ship, Relay, Tell, Prune, Link, Settle, Feed}
use Rattle.script_core.specs.Deeds.{told}
use Rattle.script_core.specs.Carrying.{Route, route, detour, detours, routes, ship_line, relay_line, tell_line, is_there, delivery_end, Delivers, AfterSend, Sends, AfterReport, Supplies, own_need, origin_need, Ships, Relays, AfterTold, Tells, InTurn, no_turn, next_turn, Passes, Settles, last_pass, one_pass}
use Rattle.script_core.specs.Orders.{Orders, base_line, OperatorDeeds}
use Rattle.script_core.specs.Rounds.{AfterNeeded, Brings, Mails, SenderDeeds, ReceiverDeeds, ReporterDeeds, PrunerDeeds, is_prune_round, others}
use Rattle.run_book.proofs.Happenings.Feeding.{feed_each}
use Rattle.run_laws.specs.ReadLines.{value_told, value_due, TellsReads}
use Rattle.run_laws.proofs.ClientLines.{both_told, mapped_told}

module _ (c : ℕ) where
  -- no deeds
  none_told : (deeds : List Deed) → deeds ≡ [] → TellsReads c deeds
  none_told deeds none = subst (TellsReads c) (sym none) refl

  -- an ask, and what follows it
  ask_told : (i : ℕ) (ask : Ask) (say : Say) (later deeds : List Deed) → deeds ≡ Asked i ask (Unheard say) ∷ later → TellsReads c later → TellsReads c deeds
  ask_told i ask say later deeds whole rest = subst (TellsReads c) (sym whole) rest

  -- asks, and a line
  line_told : (asks : List Deed) (line : Option Line) (deeds : List Deed) → deeds ≡ asks ++ told line → TellsReads c asks → TellsReads c (told line) → TellsReads c deeds
  line_told asks line deeds whole first last = subst (TellsReads c) (sym whole) (both_told c asks (told line) first last)

  -- ---- records

  delivers_told : (to : ℕ) (items : List Sent) (last : Option ShipEnd) (deeds : List Deed) (end : Option ShipEnd) → Delivers to items last deeds end → TellsReads c deeds
  delivers_told to [] last deeds end is = none_told deeds is.0
  delivers_told to (item ∷ items) last [] end is = absurd is
  delivers_told to (item ∷ items) last (deed ∷ deeds) end (say, asks, rest) =
      subst (λ deed. TellsReads c (deed ∷ deeds)) (sym asks) (go (is_there say) rest (delivers_told to items (delivery_end to item.item say) deeds end))
    where
      go : (test : Bool) → MatchBool test (Delivers to items (delivery_end to item.item say) deeds end) ((deeds ≡ []) × (end ≡ delivery_end to item.item say)) → (Delivers to items (delivery_end to item.item say) deeds end → TellsReads c deeds) → TellsReads c deeds
      go true more each = each more
      go false none each = none_told deeds none.0

  after_send_told : (r : Route) (last : Option ShipEnd) (say : Say) (deeds : List Deed) (end : Option ShipEnd) → AfterSend r last say deeds end → TellsReads c deeds
  after_send_told r last (Records list) deeds end is = delivers_told r.to list last deeds end is
  after_send_told r last say deeds end is = none_told deeds is.0

  sends_told : (r : Route) (last : Option ShipEnd) (ask : Ask) (deeds : List Deed) (end : Option ShipEnd) → Sends r last ask deeds end → TellsReads c deeds
  sends_told r last ask deeds end is = ask_told r.from ask is.say is.later deeds is.whole (after_send_told r last is.say is.later end is.follows)

  after_report_told : (r : Route) (need : List ℕ → Ask) (say : Say) (deeds : List Deed) (end : Option ShipEnd) → AfterReport r need say deeds end → TellsReads c deeds
  after_report_told r need (Vector vector) deeds end is = sends_told r None (need vector) deeds end is
  after_report_told r need say deeds end is = none_told deeds is.0

  supplies_told : (r : Route) (need : List ℕ → Ask) (deeds : List Deed) (end : Option ShipEnd) → Supplies r need deeds end → TellsReads c deeds
  supplies_told r need deeds end is = ask_told r.to Report is.say is.later deeds is.whole (after_report_told r need is.say is.later end is.follows)

  -- ---- vectors

  after_told_told : (r : Route) (say : Say) (deeds : List Deed) (line : Option Line) → AfterTold r say deeds line → TellsReads c deeds
  after_told_told r (Vector vector) deeds line is = ask_told r.to (Learn r.from vector) is.0 [] deeds is.1 refl
  after_told_told r say deeds line is = none_told deeds is.0

  tells_told : (r : Route) (deeds : List Deed) (line : Option Line) → Tells r deeds line → TellsReads c deeds
  tells_told r deeds line is = ask_told r.from Report is.say is.later deeds is.whole (after_told_told r is.say is.later line is.follows)

  -- its line has no value
  tell_line_told : (r : Route) (centre : ℕ) (say : Say) → TellsReads c (told (tell_line r centre say))
  tell_line_told r centre DownSay = refl
  tell_line_told r centre Misfit = refl
  tell_line_told r centre _ = refl

  after_line_told : (r : Route) (say : Say) (deeds : List Deed) (line : Option Line) → AfterTold r say deeds line → TellsReads c (told line)
  after_line_told r (Vector vector) deeds line is = subst (λ line. TellsReads c (told line)) (sym is.2) (tell_line_told r r.to is.0)
  after_line_told r say deeds line is = subst (λ line. TellsReads c (told line)) (sym is.1) (tell_line_told r r.from say)

  -- ---- in turn

  turns_told : {X : Type 0} (Does : X → List Deed → Type 0) (xs : List X) (deeds : List Deed) → ((x : X) (deeds : List Deed) → Does x deeds → TellsReads c deeds) → InTurn Does xs deeds → TellsReads c deeds
  turns_told Does [] deeds each no_turn = refl
  turns_told Does (x ∷ xs) deeds each (next_turn first later whole does rest) = subst (TellsReads c) (sym whole) (both_told c first later (each x first does) (turns_told Does xs later each rest))

  passes_told : (n : ℕ) (deeds : List Deed) → Passes n deeds → TellsReads c deeds
  passes_told n deeds is = subst (TellsReads c) (sym is.whole) (both_told c is.ships (is.relays ++ is.tells)
      (turns_told (λ r deeds. (end : Option ShipEnd) × Ships r deeds end) (routes n) is.ships (λ r deeds does. supplies_told r (own_need r) deeds does.0 does.1) is.shipped)
      (both_told c is.relays is.tells
      (turns_told (λ t deeds. (end : Option ShipEnd) × Relays t deeds end) (detours n) is.relays (λ t deeds does. supplies_told (route t.from t.to) (origin_need t) deeds does.0 does.1) is.relayed)
      (turns_told (λ r deeds. (line : Option Line) × Tells r deeds line) (routes n) is.tells (λ r deeds does. tells_told r deeds does.0 does.1) is.told_all)))

  settles_told : (n : ℕ) (deeds : List Deed) → Settles n deeds → TellsReads c deeds
  settles_told n deeds (last_pass passed none) = passes_told n deeds passed
  settles_told n deeds (one_pass first later whole passed some rest) = subst (TellsReads c) (sym whole) (both_told c first later (passes_told n first passed) (settles_told n later rest))

  -- ---- the steps of the operator

  -- the line of a prune has no value
  base_told : (centre : ℕ) (say : Say) → TellsReads c (told (base_line centre say))
  base_told centre (Base vector folded trimmed) = refl
  base_told centre DownSay = refl
  base_told centre _ = refl

  -- deeds each of which tells what it reads
  each_told : (deeds : List Deed) → All (λ deed. value_told deed ≡ value_due c deed) deeds → TellsReads c deeds
  each_told [] all = refl
  each_told (deed ∷ deeds) all =
      let here : value_told deed ≡ value_due c deed = All-head (λ deed. value_told deed ≡ value_due c deed) deed deeds all in
      let rest : TellsReads c deeds = each_told deeds (All-tail (λ deed. value_told deed ≡ value_due c deed) deed deeds all) in
      λ i. cons_option (here i) (rest i)

  pub order_told : (n : ℕ) (step : OperatorStep) (deeds : List Deed) → OperatorDeeds n step deeds → TellsReads c deeds
  order_told n (Down centre) deeds are = ask_told centre Stop are.0 [] deeds are.1 refl
  order_told n (Up centre) deeds are = ask_told centre Start are.0 [] deeds are.1 refl
  order_told n (ShipOne from to seq) deeds are = line_told are.asks (ship_line (route from to) are.end) deeds are.whole (sends_told (route from to) _ _ are.asks are.end are.sends) (mapped_told c (line.Ship from to) are.end (λ end. refl))
  order_told n (Ship from to) deeds are = line_told are.asks (ship_line (route from to) are.end) deeds are.whole (supplies_told (route from to) (own_need (route from to)) are.asks are.end are.ships) (mapped_told c (line.Ship from to) are.end (λ end. refl))
  order_told n (Relay from origin to) deeds are = line_told are.asks (relay_line (detour from origin to) are.end) deeds are.whole (supplies_told (route from to) (origin_need (detour from origin to)) are.asks are.end are.relays) (mapped_told c (line.Relay from origin to) are.end (λ end. refl))
  order_told n (Tell from to) deeds are = line_told are.asks are.line deeds are.whole (tells_told (route from to) are.asks are.line are.tells) (after_line_told (route from to) are.tells.say are.tells.later are.line are.tells.follows)
  order_told n (Prune centre) deeds are = ask_told centre PruneAsk are.answer (told (base_line centre are.answer)) deeds are.whole (base_told centre are.answer)
  order_told n (Link from to fault) deeds are = none_told deeds are
  order_told n Settle deeds are = settles_told n deeds are
  order_told n (Feed centre) deeds are = each_told deeds (feed_each (λ deed. value_told deed ≡ value_due c deed) centre (λ say. refl) (λ vector object say. refl) (λ fed. refl) are.0 deeds are.1)

  -- ---- the rounds of workers

  after_needed_told : (r : Route) (say : Say) (deeds : List Deed) (items : List Sent) → AfterNeeded r say deeds items → TellsReads c deeds
  after_needed_told r (Vector vector) deeds items is = ask_told r.from _ is.0 [] deeds is.1 refl
  after_needed_told r say deeds items is = none_told deeds is.0

  mails_told : (r : Route) (deeds : List Deed) (items : List Sent) → Mails r deeds items → TellsReads c deeds
  mails_told r deeds items is = ask_told r.to Report is.say is.later deeds is.whole (after_needed_told r is.say is.later items is.follows)

  brings_told : (r : Route) (items : List (Arrival Sent)) (deeds : List Deed) → Brings r items deeds → TellsReads c deeds
  brings_told r [] deeds is = none_told deeds is
  brings_told r (item ∷ items) [] is = absurd is
  brings_told r (Whole item ∷ items) (deed ∷ deeds) is = subst (λ deed. TellsReads c (deed ∷ deeds)) (sym is.0.1) (brings_told r items deeds is.1)
  brings_told r (Spoilt number why ∷ items) (deed ∷ deeds) is = subst (λ deed. TellsReads c (deed ∷ deeds)) (sym is.0) (brings_told r items deeds is.1)

  pub sender_told : (n i : ℕ) (deeds : List Deed) → SenderDeeds n i deeds → TellsReads c deeds
  sender_told n i deeds are = turns_told (λ to deeds. (items : List Sent) × Mails (route i to) deeds items) (others n i) deeds (λ to deeds does. mails_told (route i to) deeds does.0 does.1) are

  pub receiver_told : (n j : ℕ) (due : ℕ → List (Arrival Sent)) (deeds : List Deed) → ReceiverDeeds n j due deeds → TellsReads c deeds
  receiver_told n j due deeds are = turns_told (λ from deeds. Brings (route from j) (due from) deeds) (others n j) deeds (λ from deeds does. brings_told (route from j) (due from) deeds does) are

  pub reporter_told : (n i : ℕ) (deeds : List Deed) → ReporterDeeds n i deeds → TellsReads c deeds
  reporter_told n i deeds are = turns_told (λ to deeds. (line : Option Line) × Tells (route i to) deeds line) (others n i) deeds (λ to deeds does. tells_told (route i to) deeds does.0 does.1) are

  pub pruner_told : (i round : ℕ) (deeds : List Deed) → PrunerDeeds i round deeds → TellsReads c deeds
  pruner_told i round deeds are = go (is_prune_round round) are
    where
      go : (test : Bool) → cond test (Orders i PruneAsk deeds) (deeds ≡ []) → TellsReads c deeds
      go true asks = ask_told i PruneAsk asks.0 [] deeds asks.1 refl
      go false none = none_told deeds none
