-- Asks for records with the deliveries behind them.
use Rattle.std.proofs.Common.{◌≡◌, ℕ, List, [], ◌∷◌, ◌++◌, Option, None, refl, sym, ap, ◌∙◌, subst}
use Rattle.dc_talk.specs.declared.sent.Sent.{Sent}
use Rattle.dc_talk.specs.declared.ask.Ask.{Ask}
use Rattle.dc_talk.specs.declared.ask.Ask.TheVariants.{Report}
use Rattle.dc_talk.specs.declared.say.Say.{Say}
use Rattle.dc_talk.specs.declared.say.Say.TheVariants.{Records, Vector}
use Rattle.dc_talk.specs.declared.log.Fate.TheVariants.{Unheard}
use Rattle.dc_talk.specs.declared.log.Deed.{Deed}
use Rattle.dc_talk.specs.declared.log.Deed.TheVariants.{Asked}
use Rattle.dc_talk.specs.declared.line.ShipEnd.{ShipEnd}
use Rattle.dc_talk.specs.Acting.{Acting}
use Rattle.script_core.specs.Carrying.{Route, stopped_end, Delivers, AfterSend, Sends, AfterReport, Supplies}
use Rattle.script_core.specs.Provenance.{Carries, CarriesAll}
use Rattle.script_core.specs.declared.rounds.TheConstants.{MOST_MAILED}
use Rattle.script_core.specs.Rounds.{records_in, AfterNeeded, Mails}
use Rattle.dc_worker.specs.declared.sends.Need.{Need}
use Rattle.dc_worker.specs.declared.sends.Need.TheVariants.{Own, Of}
use Rattle.dc_worker.specs.declared.sends.Handed.{Handed}
use Rattle.dc_worker.specs.declared.sends.Handed.TheVariants.{Items, Ended}
use Rattle.dc_worker.specs.Work.{Adds, AddsSuch, CarriesSuch}
use Rattle.dc_worker.specs.Sends.{handed_of, need_of, own_part, AfterNeed, AsksFor}
use Rattle.dc_worker.proofs.Work.{adds_then}
use Rattle.script_core.proofs.Provenance.{sends_carry, supplies_carry}
use Rattle.script_core.proofs.Mailing.{mails_carry}

-- ---- a report and an ask for what is needed

-- a report of a vector, and an ask behind it
pub asks_for_vector : (a b c : Acting) (r : Route) (need : List ℕ → Ask) (ask : Ask) (vector : List ℕ) (first say : Say) (handed : Handed) → Adds a b (Asked r.to Report (Unheard first) ∷ []) → first ≡ Vector vector → ask ≡ need vector → Adds b c (Asked r.from ask (Unheard say) ∷ []) → handed ≡ handed_of r.from say → AddsSuch (λ deeds. AsksFor r need deeds handed) a c
asks_for_vector a b c r need ask vector first say handed report is needs asked gives = record {
  deeds = Asked r.to Report (Unheard first) ∷ Asked r.from ask (Unheard say) ∷ [];
  such = record {
    say = first;
    later = Asked r.from ask (Unheard say) ∷ [];
    whole = refl;
    follows = subst (λ said. AfterNeed r need said (Asked r.from ask (Unheard say) ∷ []) handed) (sym is) (say, ap (λ ask. Asked r.from ask (Unheard say) ∷ []) needs, gives);
  };
  adds = adds_then a b c (Asked r.to Report (Unheard first) ∷ []) (Asked r.from ask (Unheard say) ∷ []) report asked;
}

-- ---- asks for what is put on a link

-- the records that an ask for them came to
abbrev pub items_of : Handed → List Sent
items_of (Items list) = list
items_of (Ended end) = []

-- these are the records of the answer
items_handed : (from : ℕ) (say : Say) → items_of (handed_of from say) ≡ records_in say
items_handed from (Records list) = refl
items_handed from say = refl

-- what follows a report
needed : (r : Route) (say : Say) (deeds : List Deed) (handed : Handed) → AfterNeed r (own_part r MOST_MAILED) say deeds handed → AfterNeeded r say deeds (items_of handed)
needed r (Vector vector) deeds handed is = (is.0, is.1, ap items_of is.2 ∙ items_handed r.from is.0)
needed r say deeds handed is = (is.0, ap items_of is.1)

-- the asks of a send are those over a route
pub mails_for : (a b : Acting) (r : Route) (handed : Handed) (items : List Sent) → AddsSuch (λ deeds. AsksFor r (own_part r MOST_MAILED) deeds handed) a b → items ≡ items_of handed → CarriesSuch (λ deeds. Mails r deeds items) a b
mails_for a b r handed items asked is =
    let follows : AfterNeeded r asked.such.say asked.such.later items = subst (AfterNeeded r asked.such.say asked.such.later) (sym is) (needed r asked.such.say asked.such.later handed asked.such.follows) in
    let such : Mails r asked.deeds items = record { say = asked.such.say; later = asked.such.later; whole = asked.such.whole; follows = follows } in
    record { deeds = asked.deeds; such = such; adds = asked.adds; carries = mails_carry r asked.deeds items such }

-- ---- deliveries behind an ask

-- the records of an answer are delivered
after_items : (r : Route) (last : Option ShipEnd) (say : Say) (items : List Sent) (deeds : List Deed) (end : Option ShipEnd) → Items items ≡ handed_of r.from say → Delivers r.to items last deeds end → AfterSend r last say deeds end
after_items r last (Records list) items deeds end gives is = let same : items ≡ list = cc in subst (λ items. Delivers r.to items last deeds end) same is
after_items r last say items deeds end gives is = cc

-- an answer without records ends a delivery
after_ended : (r : Route) (last : Option ShipEnd) (say : Say) (end : Option ShipEnd) → Ended end ≡ handed_of r.from say → AfterSend r last say [] end
after_ended r last (Records list) end gives = cc
after_ended r last say end gives = (refl, cc)

-- the deliveries behind an ask
pub sends_items : (a b c : Acting) (r : Route) (last : Option ShipEnd) (ask : Ask) (say : Say) (items : List Sent) (end : Option ShipEnd) → ((say : Say) → Carries [] (Asked r.from ask (Unheard say))) → Adds a b (Asked r.from ask (Unheard say) ∷ []) → Items items ≡ handed_of r.from say → AddsSuch (λ deeds. Delivers r.to items last deeds end) b c → CarriesSuch (λ deeds. Sends r last ask deeds end) a c
sends_items a b c r last ask say items end carried asked gives delivered =
    let deeds : List Deed = Asked r.from ask (Unheard say) ∷ delivered.deeds in
    let such : Sends r last ask deeds end = record { say = say; later = delivered.deeds; whole = refl; follows = after_items r last say items delivered.deeds end gives delivered.such } in
    record { deeds = deeds; such = such; adds = adds_then a b c (Asked r.from ask (Unheard say) ∷ []) delivered.deeds asked delivered.adds; carries = sends_carry [] r last ask deeds end carried such }

-- an ask that ends a delivery
pub sends_ended : (a b : Acting) (r : Route) (last : Option ShipEnd) (ask : Ask) (say : Say) (end : Option ShipEnd) → ((say : Say) → Carries [] (Asked r.from ask (Unheard say))) → Adds a b (Asked r.from ask (Unheard say) ∷ []) → Ended end ≡ handed_of r.from say → CarriesSuch (λ deeds. Sends r last ask deeds end) a b
sends_ended a b r last ask say end carried asked gives =
    let deeds : List Deed = Asked r.from ask (Unheard say) ∷ [] in
    let such : Sends r last ask deeds end = record { say = say; later = []; whole = refl; follows = after_ended r last say end gives } in
    record { deeds = deeds; such = such; adds = asked; carries = sends_carry [] r last ask deeds end carried such }

-- ---- deliveries behind a report and an ask

-- the records that were handed on are delivered
after_report_items : (r : Route) (need : List ℕ → Ask) (say : Say) (items : List Sent) (asks deeds : List Deed) (end : Option ShipEnd) → AfterNeed r need say asks (Items items) → Delivers r.to items None deeds end → AfterReport r need say (asks ++ deeds) end
after_report_items r need (Vector vector) items asks deeds end asked is = record { say = asked.0; later = deeds; whole = ap (λ asks. asks ++ deeds) asked.1; follows = after_items r None asked.0 items deeds end asked.2 is }
after_report_items r need say items asks deeds end asked is = let ends : Items items ≡ Ended (stopped_end r.to say) = asked.1 in cc

-- what was answered ends the delivery
after_report_ended : (r : Route) (need : List ℕ → Ask) (say : Say) (asks : List Deed) (end : Option ShipEnd) → AfterNeed r need say asks (Ended end) → AfterReport r need say asks end
after_report_ended r need (Vector vector) asks end asked = record { say = asked.0; later = []; whole = asked.1; follows = after_ended r None asked.0 end asked.2 }
after_report_ended r need say asks end asked = (asked.0, let ends : Ended end ≡ Ended (stopped_end r.to say) = asked.1 in cc)

-- what is handed on an earlier deed brought
pub need_carries : (need : Need) (r : Route) (deeds : List Deed) (end : Option ShipEnd) → Supplies r (need_of need r.from) deeds end → CarriesAll [] deeds
need_carries (Own most) r deeds end is = supplies_carry r (need_of (Own most) r.from) deeds end (λ before vector say. tt) is
need_carries (Of origin) r deeds end is = supplies_carry r (need_of (Of origin) r.from) deeds end (λ before vector say. tt) is

-- what a supply carries
abbrev IsCarriedBy : Route → (List ℕ → Ask) → Type 0
IsCarriedBy r need = (deeds : List Deed) (end : Option ShipEnd) → Supplies r need deeds end → CarriesAll [] deeds

pub supplies_items : (a b c : Acting) (r : Route) (need : List ℕ → Ask) (handed : Handed) (items : List Sent) (end : Option ShipEnd) → IsCarriedBy r need → AddsSuch (λ deeds. AsksFor r need deeds handed) a b → handed ≡ Items items → AddsSuch (λ deeds. Delivers r.to items None deeds end) b c → CarriesSuch (λ deeds. Supplies r need deeds end) a c
supplies_items a b c r need handed items end carried asked is delivered =
    let deeds : List Deed = asked.deeds ++ delivered.deeds in
    let follows : AfterNeed r need asked.such.say asked.such.later (Items items) = subst (AfterNeed r need asked.such.say asked.such.later) is asked.such.follows in
    let such : Supplies r need deeds end = record { say = asked.such.say; later = asked.such.later ++ delivered.deeds; whole = ap (λ asks. asks ++ delivered.deeds) asked.such.whole; follows = after_report_items r need asked.such.say items asked.such.later delivered.deeds end follows delivered.such } in
    record { deeds = deeds; such = such; adds = adds_then a b c asked.deeds delivered.deeds asked.adds delivered.adds; carries = carried deeds end such }

pub supplies_ended : (a b : Acting) (r : Route) (need : List ℕ → Ask) (handed : Handed) (end : Option ShipEnd) → IsCarriedBy r need → AddsSuch (λ deeds. AsksFor r need deeds handed) a b → handed ≡ Ended end → CarriesSuch (λ deeds. Supplies r need deeds end) a b
supplies_ended a b r need handed end carried asked is =
    let follows : AfterNeed r need asked.such.say asked.such.later (Ended end) = subst (AfterNeed r need asked.such.say asked.such.later) is asked.such.follows in
    let such : Supplies r need asked.deeds end = record { say = asked.such.say; later = asked.such.later; whole = asked.such.whole; follows = after_report_ended r need asked.such.say asked.such.later end follows } in
    record { deeds = asked.deeds; such = such; adds = asked.adds; carries = carried asked.deeds end such }
