-- Deliveries of records, one after another.
use Rattle.std.proofs.Common.{◌≡◌, ℕ, Bool, true, false, List, [], ◌∷◌, ◌++◌, Option, refl, sym, ◌∙◌, subst}
use Rattle.std.specs.Prelude.{MatchBool}
use Rattle.std.proofs.lemmas.List.{append-nil, append_assoc}
use Rattle.dc_talk.specs.declared.sent.Sent.{Sent}
use Rattle.dc_talk.specs.declared.ask.Ask.TheVariants.{Deliver}
use Rattle.dc_talk.specs.declared.say.Say.{Say}
use Rattle.dc_talk.specs.declared.log.Fate.TheVariants.{Unheard}
use Rattle.dc_talk.specs.declared.log.Deed.{Deed}
use Rattle.dc_talk.specs.declared.log.Deed.TheVariants.{Asked}
use Rattle.dc_talk.specs.declared.line.ShipEnd.{ShipEnd}
use Rattle.dc_talk.specs.Acting.{Acting}
use Rattle.script_core.specs.Carrying.{is_there, delivery_end, Delivers}
use Rattle.dc_worker.specs.Work.{Adds, AddsSuch, HasDelivered}
use Rattle.dc_worker.proofs.Work.{adds_none, adds_then}

-- so far these deeds delivered the records in front of the rest, and all are there: what is delivered of the rest is
-- delivered behind them
pub record Delivering (to : ℕ) (items rest : List Sent) (last end : Option ShipEnd) (deeds : List Deed) : Type 0 where
  pub on : (later : List Deed) (final : Option ShipEnd) → Delivers to rest end later final → Delivers to items last (deeds ++ later) final

-- no deeds
pub delivering_none : (to : ℕ) (items : List Sent) (last : Option ShipEnd) → Delivering to items items last last []
delivering_none to items last = record { on = λ later final is. is }

-- one record more, which is there
pub delivering_more : (to : ℕ) (items rest : List Sent) (last end : Option ShipEnd) (deeds : List Deed) (item : Sent) (say : Say) → Delivering to items (item ∷ rest) last end deeds → is_there say ≡ true → Delivering to items rest last (delivery_end to item.item say) (deeds ++ Asked to (Deliver item.item item.hops) (Unheard say) ∷ [])
delivering_more to items rest last end deeds item say before there = record {
  on = λ later final is.
      subst (λ all. Delivers to items last all final) (sym (append_assoc deeds (Asked to (Deliver item.item item.hops) (Unheard say) ∷ []) later))
      (before.on (Asked to (Deliver item.item item.hops) (Unheard say) ∷ later) final
      (say, refl, subst (λ test. MatchBool test (Delivers to rest (delivery_end to item.item say) later final) ((later ≡ []) × (final ≡ delivery_end to item.item say))) (sym there) is));
}

-- one record more, which is not there, is the last
pub delivers_to_one : (to : ℕ) (items rest : List Sent) (last end : Option ShipEnd) (deeds : List Deed) (item : Sent) (say : Say) → Delivering to items (item ∷ rest) last end deeds → is_there say ≡ false → Delivers to items last (deeds ++ Asked to (Deliver item.item item.hops) (Unheard say) ∷ []) (delivery_end to item.item say)
delivers_to_one to items rest last end deeds item say before not =
    before.on (Asked to (Deliver item.item item.hops) (Unheard say) ∷ []) (delivery_end to item.item say)
    (say, refl, subst (λ test. MatchBool test (Delivers to rest (delivery_end to item.item say) none (delivery_end to item.item say)) ((none ≡ []) × (delivery_end to item.item say ≡ delivery_end to item.item say))) (sym not) (refl, refl))
  where
    none : List Deed
    none = []

-- no record is left
pub delivers_all : (to : ℕ) (items : List Sent) (last end : Option ShipEnd) (deeds : List Deed) → Delivering to items [] last end deeds → Delivers to items last deeds end
delivers_all to items last end deeds before = subst (λ all. Delivers to items last all end) (append-nil deeds) (before.on [] end (refl, refl))

-- ---- the same with a log and a door

-- how far the records were delivered, with the end that is given where there is none and that of the last one
pub record DeliversOn (to : ℕ) (items rest : List Sent) (ends : Option ShipEnd × Option ShipEnd) (old new : Acting) : Type 0 where
  pub deeds : List Deed
  pub so_far : Delivering to items rest ends.0 ends.1 deeds
  pub adds : Adds old new deeds

pub delivers_on_none : (to : ℕ) (items rest : List Sent) (last : Option ShipEnd) (a : Acting) → rest ≡ items → DeliversOn to items rest (last, last) a a
delivers_on_none to items rest last a all = subst (λ rest. DeliversOn to items rest (last, last) a a) (sym all) (record { deeds = []; so_far = delivering_none to items last; adds = adds_none a })

-- one record more, which is there
pub delivers_on_more : (to : ℕ) (items left rest : List Sent) (last end : Option ShipEnd) (a b c : Acting) (item : Sent) (it : Option ShipEnd × Bool) → left ≡ item ∷ rest → DeliversOn to items left (last, end) a b → HasDelivered to item it b c → it.1 ≡ true → DeliversOn to items rest (last, it.0) a c
delivers_on_more to items left rest last end a b c item it is before one there =
    let more : List Deed = before.deeds ++ Asked to (Deliver item.item item.hops) (Unheard one.say) ∷ [] in
    let front : Delivering to items (item ∷ rest) last end before.deeds = subst (λ left. Delivering to items left last end before.deeds) is before.so_far in
    record {
      deeds = more;
      so_far = subst (λ end. Delivering to items rest last end more) (sym one.end) (delivering_more to items rest last end before.deeds item one.say front (sym one.there ∙ there));
      adds = adds_then a b c before.deeds (Asked to (Deliver item.item item.hops) (Unheard one.say) ∷ []) before.adds one.adds;
    }

-- one record more, which is not there, is the last
pub delivers_on_last : (to : ℕ) (items left rest : List Sent) (last end : Option ShipEnd) (a b c : Acting) (item : Sent) (it : Option ShipEnd × Bool) → left ≡ item ∷ rest → DeliversOn to items left (last, end) a b → HasDelivered to item it b c → it.1 ≡ false → AddsSuch (λ deeds. Delivers to items last deeds it.0) a c
delivers_on_last to items left rest last end a b c item it is before one not =
    let more : List Deed = before.deeds ++ Asked to (Deliver item.item item.hops) (Unheard one.say) ∷ [] in
    let front : Delivering to items (item ∷ rest) last end before.deeds = subst (λ left. Delivering to items left last end before.deeds) is before.so_far in
    record {
      deeds = more;
      such = subst (λ end. Delivers to items last more end) (sym one.end) (delivers_to_one to items rest last end before.deeds item one.say front (sym one.there ∙ not));
      adds = adds_then a b c before.deeds (Asked to (Deliver item.item item.hops) (Unheard one.say) ∷ []) before.adds one.adds;
    }

-- no record is left
pub delivers_on_all : (to : ℕ) (items left : List Sent) (last end : Option ShipEnd) (a b : Acting) → left ≡ [] → DeliversOn to items left (last, end) a b → AddsSuch (λ deeds. Delivers to items last deeds end) a b
delivers_on_all to items left last end a b none before = record {
  deeds = before.deeds;
  such = delivers_all to items last end before.deeds (subst (λ left. Delivering to items left last end before.deeds) none before.so_far);
  adds = before.adds;
}
