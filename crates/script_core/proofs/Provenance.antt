-- What deeds carry, one after another and behind more.
use Rattle.std.proofs.Common.{◌≡◌, ℕ, inl, inr, Bool, true, false, ◌==◌, List, [], ◌∷◌, ◌++◌, Option, Some, None, refl, sym, ap, subst, arith}
use Rattle.std.specs.Prelude.{MatchBool, cond}
use Rattle.std.proofs.lemmas.List.{append-nil, append_assoc}
use Rattle.list_core.specs.Members.{In}
use Rattle.list_core.proofs.Members.{In_left, In_right}
use Rattle.ids_core.specs.declared.object.ObjectId.{ObjectId}
use Rattle.tx_core.specs.declared.state.State.{State}
use Rattle.dc_talk.specs.declared.sent.Sent.{Sent}
use Rattle.dc_talk.specs.declared.ask.Ask.{Ask}
use Rattle.dc_talk.specs.declared.ask.Ask.TheVariants.{Hello, Refresh, Fetch, Delta, Commit, Send, Deliver, Relay, Report, Learn, Prune, Stop, Start}
use Rattle.dc_talk.specs.declared.say.Say.{Say}
use Rattle.dc_talk.specs.declared.say.Say.TheVariants.{Records, Vector}
use Rattle.dc_talk.specs.declared.say.Say.TheVariants as said
use Rattle.dc_talk.specs.declared.log.Fate.TheVariants.{Unheard}
use Rattle.dc_talk.specs.declared.log.Deed.{Deed}
use Rattle.dc_talk.specs.declared.log.Deed.TheVariants.{Did, Asked, Told, Spoilt}
use Rattle.dc_talk.specs.declared.line.ShipEnd.{ShipEnd}
use Rattle.dc_talk.specs.declared.line.Line.{Line}
use Rattle.dc_talk.specs.declared.line.Line.TheVariants as line
use Rattle.dc_talk.specs.Sents.{with_hops}
use Rattle.dc_talk.specs.Logs.{exchanged_in}
use Rattle.script_core.specs.Carrying.{Route, route, Detour, is_there, delivery_end, Delivers, AfterSend, Sends, AfterReport, Supplies, own_need, origin_need, Ships, Relays, AfterTold, Tells, InTurn, no_turn, next_turn, Passes, Settles, last_pass, one_pass}
use Rattle.script_core.specs.Provenance.{HasAnswer, WasSent, Carries, CarriesAll}
use Rattle.script_core.specs.declared.taps.Found.{Found}
use Rattle.script_core.specs.declared.taps.Found.TheVariants.{Whole, Ended}
use Rattle.script_core.specs.Feeds.{fetch_of, fetches_of, Fetches, AfterPrune, Finds, fed_of, FeedDeeds}

-- ---- more deeds

-- an answer among deeds is one among these and those before them
has_behind : (front deeds : List Deed) (i : ℕ) (ask : Ask) (say : Say) → HasAnswer deeds i ask say → HasAnswer (front ++ deeds) i ask say
has_behind front deeds i ask say has = record { deed = has.deed; there = In_right front deeds has.deed has.there; exchanged = has.exchanged }

-- and among these and those behind them
has_before : (deeds back : List Deed) (i : ℕ) (ask : Ask) (say : Say) → HasAnswer deeds i ask say → HasAnswer (deeds ++ back) i ask say
has_before deeds back i ask say has = record { deed = has.deed; there = In_left deeds back has.deed has.there; exchanged = has.exchanged }

sent_behind : (front deeds : List Deed) (item : Sent) → WasSent deeds item → WasSent (front ++ deeds) item
sent_behind front deeds item sent = record { centre = sent.centre; ask = sent.ask; list = sent.list; answer = has_behind front deeds sent.centre sent.ask (Records sent.list) sent.answer; among = sent.among }

pub sent_before : (deeds back : List Deed) (item : Sent) → WasSent deeds item → WasSent (deeds ++ back) item
sent_before deeds back item sent = record { centre = sent.centre; ask = sent.ask; list = sent.list; answer = has_before deeds back sent.centre sent.ask (Records sent.list) sent.answer; among = sent.among }

-- a deed that carries no more than those before it brought does so behind more of them
carries_behind : (front before : List Deed) (deed : Deed) → Carries before deed → Carries (front ++ before) deed
carries_behind front before (Asked i (Deliver item hops) fate) is = sent_behind front before (with_hops item hops) is
carries_behind front before (Asked i (Learn from vector) fate) is = has_behind front before from Report (Vector vector) is
carries_behind front before (Asked i (Send after most) fate) is = tt
carries_behind front before (Asked i (Relay origin after most) fate) is = tt
carries_behind front before (Asked i Report fate) is = tt
carries_behind front before (Asked i Prune fate) is = tt
carries_behind front before (Asked i (Fetch object here) fate) is = tt
carries_behind front before (Asked i Stop fate) is = tt
carries_behind front before (Asked i Start fate) is = tt
carries_behind front before (Asked i (Hello client need) fate) is = absurd is
carries_behind front before (Asked i (Refresh client here) fate) is = absurd is
carries_behind front before (Asked i (Delta object from here) fate) is = absurd is
carries_behind front before (Asked i (Commit tx) fate) is = absurd is
carries_behind front before (Did call outcome) is = absurd is
carries_behind front before (Told line) is = tt
carries_behind front before (Spoilt from item why) is = tt

-- so do all
pub carries_more : (front before deeds : List Deed) → CarriesAll before deeds → CarriesAll (front ++ before) deeds
carries_more front before [] all = tt
carries_more front before (deed ∷ deeds) all = (
  carries_behind front before deed all.0,
  subst (λ seen. CarriesAll seen deeds) (sym (append_assoc front before (deed ∷ []))) (carries_more front (before ++ deed ∷ []) deeds all.1),
)

-- deeds after deeds
pub carries_then : (before ds es : List Deed) → CarriesAll before ds → CarriesAll (before ++ ds) es → CarriesAll before (ds ++ es)
carries_then before [] es first later = subst (λ seen. CarriesAll seen es) (append-nil before) later
carries_then before (d ∷ ds) es first later = (first.0, carries_then (before ++ d ∷ []) ds es first.1 (subst (λ seen. CarriesAll seen es) (sym (append_assoc before (d ∷ []) ds)) later))

-- deeds after deeds that carry by themselves
pub carries_both : (ds es : List Deed) → CarriesAll [] ds → CarriesAll [] es → CarriesAll [] (ds ++ es)
carries_both ds es first later = carries_then [] ds es first (subst (λ seen. CarriesAll seen es) (append-nil ds) (carries_more ds [] es later))

-- ---- what is delivered, shipped and told

-- the last deed is one of the deeds
last_in : (before : List Deed) (deed : Deed) → In deed (before ++ deed ∷ [])
last_in before deed = In_right before (deed ∷ []) deed (inl refl)

-- what an ask of a centre exchanged with it
exchanged_there : (i : ℕ) (ask : Ask) (say : Say) → exchanged_in i (Asked i ask (Unheard say)) ≡ Some (ask, say)
exchanged_there i ask say = let same : (i == i) ≡ true = grind arith in ap (λ test. cond test (Some (ask, say)) None) same

-- the answer that the last deed brought
brought : (before : List Deed) (i : ℕ) (ask : Ask) (say : Say) → HasAnswer (before ++ Asked i ask (Unheard say) ∷ []) i ask say
brought before i ask say = record { deed = Asked i ask (Unheard say); there = last_in before (Asked i ask (Unheard say)); exchanged = exchanged_there i ask say }

-- deliveries of records that were sent
pub delivers_carry : (before : List Deed) (to : ℕ) (items : List Sent) (last : Option ShipEnd) (deeds : List Deed) (end : Option ShipEnd) → ((item : Sent) → In item items → WasSent before item) → Delivers to items last deeds end → CarriesAll before deeds
delivers_carry before to [] last deeds end sent is = subst (CarriesAll before) (sym is.0) tt
delivers_carry before to (item ∷ items) last [] end sent is = tt
delivers_carry before to (item ∷ items) last (deed ∷ deeds) end sent (say, asks, rest) = (
  subst (Carries before) (sym asks) (sent item (inl refl)),
  go (is_there say) rest (λ more. delivers_carry (before ++ deed ∷ []) to items (delivery_end to item.item say) deeds end (λ other among. sent_before before (deed ∷ []) other (sent other (inr among))) more),
)
  where
    go : (test : Bool) → MatchBool test (Delivers to items (delivery_end to item.item say) deeds end) ((deeds ≡ []) × (end ≡ delivery_end to item.item say)) → (Delivers to items (delivery_end to item.item say) deeds end → CarriesAll (before ++ deed ∷ []) deeds) → CarriesAll (before ++ deed ∷ []) deeds
    go true more carry = carry more
    go false none carry = subst (CarriesAll (before ++ deed ∷ [])) (sym none.0) tt

-- what follows a send or a relay
after_send_carries : (before : List Deed) (r : Route) (last : Option ShipEnd) (ask : Ask) (say : Say) (deeds : List Deed) (end : Option ShipEnd) → AfterSend r last say deeds end → CarriesAll (before ++ Asked r.from ask (Unheard say) ∷ []) deeds
after_send_carries before r last ask (Records list) deeds end is =
    delivers_carry (before ++ Asked r.from ask (Unheard (Records list)) ∷ []) r.to list last deeds end
    (λ item among. record { centre = r.from; ask = ask; list = list; answer = brought before r.from ask (Records list); among = among }) is
after_send_carries before r last ask say deeds end is = subst (CarriesAll (before ++ Asked r.from ask (Unheard say) ∷ [])) (sym is.0) tt

pub sends_carry : (before : List Deed) (r : Route) (last : Option ShipEnd) (ask : Ask) (deeds : List Deed) (end : Option ShipEnd) → ((say : Say) → Carries before (Asked r.from ask (Unheard say))) → Sends r last ask deeds end → CarriesAll before deeds
sends_carry before r last ask deeds end carried is = subst (CarriesAll before) (sym is.whole) (carried is.say, after_send_carries before r last ask is.say is.later end is.follows)

-- what follows the report of the centre that is delivered to
after_report_carries : (before : List Deed) (r : Route) (need : List ℕ → Ask) (say : Say) (deeds : List Deed) (end : Option ShipEnd) → ((vector : List ℕ) (say : Say) → Carries before (Asked r.from (need vector) (Unheard say))) → AfterReport r need say deeds end → CarriesAll before deeds
after_report_carries before r need (Vector vector) deeds end carried is = sends_carry before r None (need vector) deeds end (carried vector) is
after_report_carries before r need say deeds end carried is = subst (CarriesAll before) (sym is.0) tt

pub supplies_carry : (r : Route) (need : List ℕ → Ask) (deeds : List Deed) (end : Option ShipEnd) → ((before : List Deed) (vector : List ℕ) (say : Say) → Carries before (Asked r.from (need vector) (Unheard say))) → Supplies r need deeds end → CarriesAll [] deeds
supplies_carry r need deeds end carried is =
    let front : List Deed = Asked r.to Report (Unheard is.say) ∷ [] in
    subst (CarriesAll []) (sym is.whole) (tt, after_report_carries front r need is.say is.later end (carried front) is.follows)

pub ships_carry : (r : Route) (deeds : List Deed) (end : Option ShipEnd) → Ships r deeds end → CarriesAll [] deeds
ships_carry r deeds end is = supplies_carry r (own_need r) deeds end (λ before vector say. tt) is

pub relays_carry : (t : Detour) (deeds : List Deed) (end : Option ShipEnd) → Relays t deeds end → CarriesAll [] deeds
relays_carry t deeds end is = supplies_carry (route t.from t.to) (origin_need t) deeds end (λ before vector say. tt) is

-- what follows the report of the centre whose vector is told
after_told_carries : (r : Route) (say : Say) (deeds : List Deed) (line : Option Line) → AfterTold r say deeds line → CarriesAll (Asked r.from Report (Unheard say) ∷ []) deeds
after_told_carries r (Vector vector) deeds line is = subst (CarriesAll (Asked r.from Report (Unheard (Vector vector)) ∷ [])) (sym is.1) (brought [] r.from Report (Vector vector), tt)
after_told_carries r say deeds line is = subst (CarriesAll (Asked r.from Report (Unheard say) ∷ [])) (sym is.0) tt

pub tells_carry : (r : Route) (deeds : List Deed) (line : Option Line) → Tells r deeds line → CarriesAll [] deeds
tells_carry r deeds line is = subst (CarriesAll []) (sym is.whole) (tt, after_told_carries r is.say is.later line is.follows)

-- ---- passes

-- what is done in turn, each of which carries by itself
pub turns_carry : {X : Type 0} (Does : X → List Deed → Type 0) → ((x : X) (deeds : List Deed) → Does x deeds → CarriesAll [] deeds) → (xs : List X) (deeds : List Deed) → InTurn Does xs deeds → CarriesAll [] deeds
turns_carry Does each [] deeds no_turn = tt
turns_carry Does each (x ∷ xs) deeds (next_turn first later whole does rest) = subst (CarriesAll []) (sym whole) (carries_both first later (each x first does) (turns_carry Does each xs later rest))

pub passes_carry : (n : ℕ) (deeds : List Deed) → Passes n deeds → CarriesAll [] deeds
passes_carry n deeds is = subst (CarriesAll []) (sym is.whole) (carries_both is.ships (is.relays ++ is.tells)
    (turns_carry (λ r deeds. (end : Option ShipEnd) × Ships r deeds end) (λ r deeds does. ships_carry r deeds does.0 does.1) _ is.ships is.shipped)
    (carries_both is.relays is.tells
    (turns_carry (λ t deeds. (end : Option ShipEnd) × Relays t deeds end) (λ t deeds does. relays_carry t deeds does.0 does.1) _ is.relays is.relayed)
    (turns_carry (λ r deeds. (line : Option Line) × Tells r deeds line) (λ r deeds does. tells_carry r deeds does.0 does.1) _ is.tells is.told_all)))

pub settles_carry : (n : ℕ) (deeds : List Deed) → Settles n deeds → CarriesAll [] deeds
settles_carry n deeds (last_pass passed none) = passes_carry n deeds passed
settles_carry n deeds (one_pass first later whole passed some rest) = subst (CarriesAll []) (sym whole) (carries_both first later (passes_carry n first passed) (settles_carry n later rest))

-- ---- feeds

-- fetches carry nothing
fetches_carry : (before : List Deed) (centre : ℕ) (vector : List ℕ) (objects : List ObjectId) (states : List State) → CarriesAll before (fetches_of centre vector objects states)
fetches_carry before centre vector [] states = tt
fetches_carry before centre vector (object ∷ objects) [] = tt
fetches_carry before centre vector (object ∷ objects) (state ∷ states) = (tt, fetches_carry (before ++ fetch_of centre vector object (said.Object state) ∷ []) centre vector objects states)

fetched_carries : (before : List Deed) (centre : ℕ) (vector : List ℕ) (objects : List ObjectId) (found : Found) (deeds : List Deed) → Fetches centre vector objects found deeds → CarriesAll before deeds
fetched_carries before centre vector objects (Whole show) deeds is = subst (CarriesAll before) (sym is.1.deeds_are) (fetches_carry before centre vector objects show.states)
fetched_carries before centre vector objects (Ended fed) deeds is =
    let first : CarriesAll before is.first = subst (CarriesAll before) (sym is.all_before.deeds_are) (fetches_carry before centre vector is.before is.states) in
    subst (CarriesAll before) (sym is.deeds_are) (carries_then before is.first (fetch_of centre vector is.object is.answer ∷ []) first (tt, tt))

-- what follows the prune
after_prune_carries : (before : List Deed) (centre : ℕ) (objects : List ObjectId) (found : Found) (answer : Say) (deeds : List Deed) → AfterPrune centre objects found answer deeds → CarriesAll before deeds
after_prune_carries before centre objects found (said.Base base folded trimmed) deeds is = fetched_carries before centre base objects found deeds is
after_prune_carries before centre objects found answer deeds is = subst (CarriesAll before) (sym is.0) tt

finds_carry : (centre : ℕ) (objects : List ObjectId) (found : Found) (deeds : List Deed) → Finds centre objects found deeds → CarriesAll [] deeds
finds_carry centre objects found deeds is = subst (CarriesAll []) (sym is.whole) (tt, after_prune_carries (Asked centre Prune (Unheard is.answer) ∷ []) centre objects found is.answer is.later is.follows)

pub feeds_carry : (centre : ℕ) (objects : List ObjectId) (deeds : List Deed) → FeedDeeds centre objects deeds → CarriesAll [] deeds
feeds_carry centre [] deeds is = subst (CarriesAll []) (sym is) tt
feeds_carry centre (object ∷ objects) deeds is = subst (CarriesAll []) (sym is.whole) (carries_both is.asks (Told (line.Feed centre (fed_of is.found)) ∷ []) (finds_carry centre (object ∷ objects) is.found is.asks is.finds) (tt, tt))
