-- The steps of the operator: asks, and the line behind them.
use Rattle.std.proofs.Common.{◌≡◌, ℕ, ◌-◌, List, [], ◌∷◌, ◌++◌, Option, Some, refl, ap}
use Rattle.dc_talk.specs.declared.ask.Ask.TheVariants.{Send, Prune as PruneAsk}
use Rattle.dc_talk.specs.declared.say.Say.{Say}
use Rattle.dc_talk.specs.declared.log.Fate.TheVariants.{Unheard}
use Rattle.dc_talk.specs.declared.line.Line.{Line}
use Rattle.dc_talk.specs.declared.line.ShipEnd.{ShipEnd}
use Rattle.dc_talk.specs.declared.line.ShipEnd.TheVariants.{Absent}
use Rattle.dc_talk.specs.declared.log.Deed.{Deed}
use Rattle.dc_talk.specs.declared.log.Deed.TheVariants.{Asked}
use Rattle.dc_talk.specs.Logs.{Logged}
use Rattle.dc_talk.specs.Acting.{Acting, acting, noted_all}
use Rattle.script_core.specs.declared.steps.OperatorStep.{OperatorStep}
use Rattle.script_core.specs.declared.steps.OperatorStep.TheVariants.{ShipOne, Ship, Relay, Tell, Prune}
use Rattle.script_core.specs.Deeds.{told}
use Rattle.script_core.specs.Orders.{base_line, OperatorDeeds}
use Rattle.script_core.specs.Carrying.{route, detour, ship_line, relay_line, Sends, Ships, Relays, Tells}
use Rattle.dc_worker.specs.Work.{Adds, CarriesSuch}
use Rattle.client_stub.specs.Playing.{Operates}
use Rattle.client_stub.proofs.Growth.{leaves_told}

-- asks that with the line behind them are those of a step
operates_told : (Are : List Deed → Type 0) (n : ℕ) (step : OperatorStep) (a b : Acting) (later : Logged) (line : Option Line) → ((asks : List Deed) → Are asks → OperatorDeeds n step (asks ++ told line)) → CarriesSuch Are a b → later ≡ noted_all b.log (told line) → Operates n step a (acting b.door later)
operates_told Are n step a b later line turn asks is = record {
  deeds = asks.deeds ++ told line;
  such = turn asks.deeds asks.such;
  leaves = leaves_told a b later asks.deeds line asks.adds.leaves is;
}

-- a ship of one record
pub ships_one : (n from to seq : ℕ) (a b : Acting) (later : Logged) (end : Option ShipEnd) (line : Option Line) → CarriesSuch (λ deeds. Sends (route from to) (Some (Absent seq)) (Send (seq - 1) 1) deeds end) a b → line ≡ ship_line (route from to) end → later ≡ noted_all b.log (told line) → Operates n (ShipOne from to seq) a (acting b.door later)
ships_one n from to seq a b later end line sends is told_it =
    operates_told (λ deeds. Sends (route from to) (Some (Absent seq)) (Send (seq - 1) 1) deeds end) n (ShipOne from to seq) a b later line
    (λ asks sends. record { asks = asks; end = end; sends = sends; whole = ap (λ line. asks ++ told line) is }) sends told_it

-- a ship of what a centre lacks
pub ships_all : (n from to : ℕ) (a b : Acting) (later : Logged) (end : Option ShipEnd) (line : Option Line) → CarriesSuch (λ deeds. Ships (route from to) deeds end) a b → line ≡ ship_line (route from to) end → later ≡ noted_all b.log (told line) → Operates n (Ship from to) a (acting b.door later)
ships_all n from to a b later end line ships is told_it =
    operates_told (λ deeds. Ships (route from to) deeds end) n (Ship from to) a b later line
    (λ asks ships. record { asks = asks; end = end; ships = ships; whole = ap (λ line. asks ++ told line) is }) ships told_it

-- a relay of what a centre lacks of an origin's records
pub relays_all : (n from origin to : ℕ) (a b : Acting) (later : Logged) (end : Option ShipEnd) (line : Option Line) → CarriesSuch (λ deeds. Relays (detour from origin to) deeds end) a b → line ≡ relay_line (detour from origin to) end → later ≡ noted_all b.log (told line) → Operates n (Relay from origin to) a (acting b.door later)
relays_all n from origin to a b later end line relays is told_it =
    operates_told (λ deeds. Relays (detour from origin to) deeds end) n (Relay from origin to) a b later line
    (λ asks relays. record { asks = asks; end = end; relays = relays; whole = ap (λ line. asks ++ told line) is }) relays told_it

-- a tell
pub tells_one : (n from to : ℕ) (a b : Acting) (later : Logged) (line : Option Line) → CarriesSuch (λ deeds. Tells (route from to) deeds line) a b → later ≡ noted_all b.log (told line) → Operates n (Tell from to) a (acting b.door later)
tells_one n from to a b later line tells told_it =
    operates_told (λ deeds. Tells (route from to) deeds line) n (Tell from to) a b later line
    (λ asks tells. record { asks = asks; line = line; tells = tells; whole = refl }) tells told_it

-- a prune
pub prunes_one : (n centre : ℕ) (a b : Acting) (later : Logged) (answer : Say) (line : Option Line) → Adds a b (Asked centre PruneAsk (Unheard answer) ∷ []) → line ≡ base_line centre answer → later ≡ noted_all b.log (told line) → Operates n (Prune centre) a (acting b.door later)
prunes_one n centre a b later answer line adds is told_it = record {
  deeds = (Asked centre PruneAsk (Unheard answer) ∷ []) ++ told line;
  such = record { answer = answer; whole = ap (λ line. Asked centre PruneAsk (Unheard answer) ∷ told line) is };
  leaves = leaves_told a b later (Asked centre PruneAsk (Unheard answer) ∷ []) line adds.leaves told_it;
}
