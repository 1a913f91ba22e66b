-- What the operator leaves in its log as it carries records and vectors between centres by hand. All but the answers
-- of the centres is fixed; no session hears any of them.
use Rattle.std.specs.Prelude.{◌≡◌, ℕ, ◌-◌, Bool, true, false, ◌==◌, ◌&&◌, not, MatchBool, filter, flat_map, map, List, [], ◌∷◌, ◌++◌, Option, Some, None}
use Rattle.std.specs.Option.{option_map}
use Rattle.std.specs.List.{list_any}
use Rattle.vv_core.specs.Vectors.{at, centres}
use Rattle.tx_core.specs.declared.tx.Record.{Record}
use Rattle.dc_talk.specs.declared.ask.Ask.{Ask}
use Rattle.dc_talk.specs.declared.ask.Ask.TheVariants.{Send, Deliver, Relay, Report, Learn}
use Rattle.dc_talk.specs.declared.ask.TheConstants.{MOST_SENT}
use Rattle.dc_talk.specs.declared.say.Say.{Say}
use Rattle.dc_talk.specs.declared.say.Say.TheVariants.{Misfit, Down, Trimmed, Records, Old, Gap, Waits, Orphan, Applied, Vector, Learned}
use Rattle.dc_talk.specs.declared.log.Fate.TheVariants.{Unheard}
use Rattle.dc_talk.specs.declared.log.Deed.{Deed}
use Rattle.dc_talk.specs.declared.log.Deed.TheVariants.{Asked}
use Rattle.dc_talk.specs.declared.sent.Sent.{Sent}
use Rattle.dc_talk.specs.declared.line.Line.{Line}
use Rattle.dc_talk.specs.declared.line.Line.TheVariants as line
use Rattle.dc_talk.specs.declared.line.ShipEnd.{ShipEnd}
use Rattle.dc_talk.specs.declared.line.ShipEnd.TheVariants as ended
use Rattle.script_core.specs.Deeds.{lack, told}

-- from one centre to another
pub record Route : Type 0 where
  pub from : ℕ
  pub to : ℕ

-- the route from one centre to another
abbrev pub route : ℕ → ℕ → Route
route from to = record { from = from; to = to }

-- from one centre to another, for the records that a third one stamped
pub record Detour : Type 0 where
  pub from : ℕ
  pub origin : ℕ
  pub to : ℕ

-- the detour of the origin's records over one centre to another
abbrev pub detour : ℕ → ℕ → ℕ → Detour
detour from origin to = record { from = from; origin = origin; to = to }

-- ---- how a delivery ends; none where an answer is to an ask of another kind

-- by the answer of this centre, where it takes part no more
abbrev pub stopped_end : ℕ → Say → Option ShipEnd
stopped_end centre Down = Some (ended.Down centre)
stopped_end centre Misfit = Some ended.Misfit
stopped_end centre _ = None

-- by the answer, without records, of the centre that was asked for them
abbrev pub send_end : ℕ → Say → Option ShipEnd
send_end from (Trimmed low) = Some (ended.Trimmed low)
send_end from say = stopped_end from say

-- by the answer to the delivery of a record
abbrev pub delivery_end : ℕ → Record → Say → Option ShipEnd
delivery_end to item (Applied true) = Some (ended.Applied item.stamp.seq)
delivery_end to item (Applied false) = Some (ended.Alias item.stamp.seq)
delivery_end to item (Old have) = Some (ended.Old have)
delivery_end to item (Gap have) = Some (ended.Gap have)
delivery_end to item (Waits centre need have) = Some (ended.Waits (lack centre need have))
delivery_end to item (Orphan number have) = Some (ended.Orphan number have)
delivery_end to item say = stopped_end to say

-- whether the next record is delivered after an answer: the record is there now
abbrev pub is_there : Say → Bool
is_there (Applied fresh) = true
is_there (Old have) = true
is_there _ = false

-- the line of a delivery that ended so
abbrev pub ship_line : Route → Option ShipEnd → Option Line
ship_line r end = option_map (line.Ship r.from r.to) end

-- the line of a relay that ended so
abbrev pub relay_line : Detour → Option ShipEnd → Option Line
relay_line t end = option_map (line.Relay t.from t.origin t.to) end

-- the line of a tell by the answer of a centre, which has none where all was told
abbrev pub tell_line : Route → ℕ → Say → Option Line
tell_line r centre Down = Some (line.ToldDown r.from r.to centre)
tell_line r centre Misfit = Some (line.ToldMisfit r.from r.to)
tell_line r centre _ = None

-- ---- records

-- deliveries to a centre of these records, in order, until one is not there; the end is that of the last one, or
-- the one that is given where there is none
abbrev pub Delivers : ℕ → List Sent → Option ShipEnd → List Deed → Option ShipEnd → Type 0
Delivers to [] last deeds end = (deeds ≡ []) × (end ≡ last)
Delivers to (item ∷ items) last [] end = ⊥
Delivers to (item ∷ items) last (deed ∷ deeds) end = (say : Say) × (deed ≡ Asked to (Deliver item.item item.hops) (Unheard say)) × MatchBool (is_there say) (Delivers to items (delivery_end to item.item say) deeds end) ((deeds ≡ []) × (end ≡ delivery_end to item.item say))

-- what follows the answer of the centre that was asked for records: deliveries of these, or nothing
abbrev pub AfterSend : Route → Option ShipEnd → Say → List Deed → Option ShipEnd → Type 0
AfterSend r last (Records list) deeds end = Delivers r.to list last deeds end
AfterSend r last say deeds end = (deeds ≡ []) × (end ≡ send_end r.from say)

-- an ask for records, and what follows it; the end is the one that is given where there are none
pub record Sends (r : Route) (last : Option ShipEnd) (ask : Ask) (deeds : List Deed) (end : Option ShipEnd) : Type 0 where
  pub say : Say
  pub later : List Deed
  pub whole : deeds ≡ Asked r.from ask (Unheard say) ∷ later
  pub follows : AfterSend r last say later end

-- what follows the report of the centre that is delivered to: an ask for what it needs by its vector
abbrev pub AfterReport : Route → (List ℕ → Ask) → Say → List Deed → Option ShipEnd → Type 0
AfterReport r need (Vector vector) deeds end = Sends r None (need vector) deeds end
AfterReport r need say deeds end = (deeds ≡ []) × (end ≡ stopped_end r.to say)

-- the asks by which one centre supplies another one with what this needs by its report
pub record Supplies (r : Route) (need : List ℕ → Ask) (deeds : List Deed) (end : Option ShipEnd) : Type 0 where
  pub say : Say
  pub later : List Deed
  pub whole : deeds ≡ Asked r.to Report (Unheard say) ∷ later
  pub follows : AfterReport r need say later end

-- the records of the centre that supplies, behind those that the other one has
abbrev pub own_need : Route → List ℕ → Ask
own_need r vector = Send (at vector r.from) MOST_SENT

-- the records of an origin, behind those that the other one has
abbrev pub origin_need : Detour → List ℕ → Ask
origin_need t vector = Relay t.origin (at vector t.origin) MOST_SENT

-- the asks of a delivery of a centre's own records that another one lacks
abbrev pub Ships : Route → List Deed → Option ShipEnd → Type 0
Ships r deeds end = Supplies r (own_need r) deeds end

-- the asks of a delivery, over a centre, of an origin's records that another one lacks
abbrev pub Relays : Detour → List Deed → Option ShipEnd → Type 0
Relays t deeds end = Supplies (route t.from t.to) (origin_need t) deeds end

-- ---- vectors

-- what follows the report of a centre: it is told to the other one
abbrev pub AfterTold : Route → Say → List Deed → Option Line → Type 0
AfterTold r (Vector vector) deeds line = (say : Say) × (deeds ≡ Asked r.to (Learn r.from vector) (Unheard say) ∷ []) × (line ≡ tell_line r r.to say)
AfterTold r say deeds line = (deeds ≡ []) × (line ≡ tell_line r r.from say)

-- the asks of a tell
pub record Tells (r : Route) (deeds : List Deed) (line : Option Line) : Type 0 where
  pub say : Say
  pub later : List Deed
  pub whole : deeds ≡ Asked r.from Report (Unheard say) ∷ later
  pub follows : AfterTold r say later line

-- ---- steps

-- the delivery of one record by its number
pub record ShipsOne (r : Route) (seq : ℕ) (deeds : List Deed) : Type 0 where
  pub asks : List Deed
  pub end : Option ShipEnd
  pub sends : Sends r (Some (ended.Absent seq)) (Send (seq - 1) 1) asks end
  pub whole : deeds ≡ asks ++ told (ship_line r end)

-- the delivery of what a centre lacks
pub record ShipsAll (r : Route) (deeds : List Deed) : Type 0 where
  pub asks : List Deed
  pub end : Option ShipEnd
  pub ships : Ships r asks end
  pub whole : deeds ≡ asks ++ told (ship_line r end)

-- the delivery of what a centre lacks of an origin's records, over another one
pub record RelaysAll (t : Detour) (deeds : List Deed) : Type 0 where
  pub asks : List Deed
  pub end : Option ShipEnd
  pub relays : Relays t asks end
  pub whole : deeds ≡ asks ++ told (relay_line t end)

-- a tell
pub record TellsOne (r : Route) (deeds : List Deed) : Type 0 where
  pub asks : List Deed
  pub line : Option Line
  pub tells : Tells r asks line
  pub whole : deeds ≡ asks ++ told line

-- ---- settling

-- all pairs of two of n centres, by the first and then by the second
abbrev pub routes : ℕ → List Route
routes n = flat_map (λ i. map (route i) (filter (λ j. not (i == j)) (centres n))) (centres n)

-- all three different ones of n centres, by the first, then by the origin, then by the last
abbrev pub detours : ℕ → List Detour
detours n = flat_map (λ i. flat_map (λ o. map (detour i o) (filter (λ j. not (i == j) && not (o == j)) (centres n))) (filter (λ o. not (i == o)) (centres n))) (centres n)

-- the deeds of each in turn, one's behind another's
pub data InTurn {X : Type 0} (Does : X → List Deed → Type 0) : List X → List Deed → Type 0 where
  no_turn : InTurn Does [] []
  next_turn : {x : X} {xs : List X} {deeds : List Deed} (first later : List Deed) → deeds ≡ first ++ later → Does x first → InTurn Does xs later → InTurn Does (x ∷ xs) deeds

-- a pass: a delivery over each route, then a relay over each detour, and then a tell over each route; none has a line
pub record Passes (n : ℕ) (deeds : List Deed) : Type 0 where
  pub ships : List Deed
  pub relays : List Deed
  pub tells : List Deed
  pub whole : deeds ≡ ships ++ (relays ++ tells)
  pub shipped : InTurn (λ r deeds. (end : Option ShipEnd) × Ships r deeds end) (routes n) ships
  pub relayed : InTurn (λ t deeds. (end : Option ShipEnd) × Relays t deeds end) (detours n) relays
  pub told_all : InTurn (λ r deeds. (line : Option Line) × Tells r deeds line) (routes n) tells

-- whether a deed was news to a centre: a record that it applied, or a vector that told it more
abbrev pub is_news : Deed → Bool
is_news (Asked i (Deliver item hops) (Unheard (Applied fresh))) = true
is_news (Asked i (Learn from vector) (Unheard (Learned fresh))) = fresh
is_news _ = false

-- passes until one has no news
pub data Settles (n : ℕ) : List Deed → Type 0 where
  last_pass : {deeds : List Deed} → Passes n deeds → list_any is_news deeds ≡ false → Settles n deeds
  one_pass : {deeds : List Deed} (first later : List Deed) → deeds ≡ first ++ later → Passes n first → list_any is_news first ≡ true → Settles n later → Settles n deeds
