-- What an actor carries as its own deeds brought it was sent and reported, be it before or behind.
use Rattle.std.proofs.Common.{◌≡◌, ℕ, inl, inr, List, [], ◌∷◌, ◌++◌, Some, sym, ap, ◌∙◌, subst, append_assoc}
use Rattle.list_core.specs.Members.{In}
use Rattle.list_core.proofs.Members.{In_left, In_map, In_from_map}
use Rattle.dc_talk.specs.declared.sent.Sent.{Sent}
use Rattle.dc_talk.specs.declared.ask.Ask.{Ask}
use Rattle.dc_talk.specs.declared.ask.Ask.TheVariants as ask
use Rattle.dc_talk.specs.declared.say.Say.{Say}
use Rattle.dc_talk.specs.declared.say.Say.TheVariants.{Records, Vector}
use Rattle.dc_talk.specs.declared.log.Deed.{Deed}
use Rattle.dc_talk.specs.declared.log.Deed.TheVariants.{Did, Asked, Told, Spoilt}
use Rattle.dc_talk.specs.declared.log.Note.{Note}
use Rattle.dc_talk.specs.Entries.{Entry}
use Rattle.dc_talk.specs.Sents.{with_hops}
use Rattle.dc_talk.specs.Logs.{exchanged_in}
use Rattle.dc_talk.specs.Answers.{History}
use Rattle.script_core.specs.declared.script.Script.{Script}
use Rattle.script_core.specs.Steps.{IsCount}
use Rattle.script_core.specs.Provenance.{HasAnswer as HasBrought, WasSent as WasBrought, Carries, CarriesAll}
use Rattle.run_book.specs.Setups.{setup_of, settings_among}
use Rattle.run_book.specs.Parts.{exchanged, entries_by}
use Rattle.run_book.specs.Happenings.{GoesToOneOf, HasAnswer, WasSent, CarrierAsks, CarrierAllows}
use Rattle.run_book.proofs.Pairing.{exchanged_is}
use Rattle.run_sections.specs.Orders.{deeds_of, InOrder}
use Rattle.run_sections.specs.Sections.{actors_of}
use Rattle.run_sections.proofs.Exchanges.{note_entered}
use Rattle.run_sections.proofs.InTurn.{order_each}

-- ---- longer trails

-- what a carrier may ask by some trails it may ask by others that have the answers of these
asks_more : (trails others : ℕ → List Entry) → ((i : ℕ) (say : Say) → HasAnswer (trails i) say → HasAnswer (others i) say) → (a : Ask) → CarrierAsks trails a → CarrierAsks others a
asks_more trails others more (ask.Deliver item hops) h = record { centre = h.centre; list = h.list; answer = more h.centre (Records h.list) h.answer; has = h.has }
asks_more trails others more (ask.Learn from news) h = more from (Vector news) h
asks_more trails others more (ask.Send after most) h = tt
asks_more trails others more (ask.Relay origin after most) h = tt
asks_more trails others more ask.Report h = tt
asks_more trails others more ask.Prune h = tt
asks_more trails others more ask.Stop h = tt
asks_more trails others more ask.Start h = tt
asks_more trails others more (ask.Hello client need) h = absurd h
asks_more trails others more (ask.Refresh client here) h = absurd h
asks_more trails others more (ask.Fetch o here) h = tt
asks_more trails others more (ask.Delta o from here) h = absurd h
asks_more trails others more (ask.Commit tx) h = absurd h

-- and so with what it may do
pub allows_more : (trails others : ℕ → List Entry) → ((i : ℕ) (say : Say) → HasAnswer (trails i) say → HasAnswer (others i) say) → (deed : Deed) → CarrierAllows trails deed → CarrierAllows others deed
allows_more trails others more (Asked i a fate) h = asks_more trails others more a h
allows_more trails others more (Did call outcome) h = absurd h
allows_more trails others more (Told line) h = tt
allows_more trails others more (Spoilt from item why) h = tt

-- ---- what each deed carries

-- a deed, with those before it that brought what it carries
record CarriesSo (deeds : List Deed) (deed : Deed) : Type 0 where
  front : List Deed
  carries : Carries front deed
  among : (other : Deed) → In other front → In other deeds

-- so is each of the deeds that carry what they brought themselves
carries_each : (before deeds : List Deed) → CarriesAll before deeds → (deed : Deed) → In deed deeds → CarriesSo (before ++ deeds) deed
carries_each before [] all deed there = absurd there
carries_each before (first ∷ deeds) all deed (inl same) = record { front = before; carries = subst (Carries before) (sym same) all.0; among = λ other among. In_left before (first ∷ deeds) other among }
carries_each before (first ∷ deeds) all deed (inr there) = subst (λ ds. CarriesSo ds deed) (append_assoc before (first ∷ []) deeds) (carries_each (before ++ first ∷ []) deeds all.1 deed there)

-- ---- notes and trails

-- the trails are histories, their entries are what the notes exchanged, and each ask goes to a centre
pub record AreExchanged (script : Script) (notes : ℕ → List Note) (trails : ℕ → List Entry) : Type 0 where
  pub histories : (i : ℕ) → IsCount script.n i → History (settings_among script.n script.k (setup_of script) i) (trails i)
  pub paired : (i a : ℕ) → IsCount script.n i → IsCount (actors_of script) a → entries_by a (trails i) ≡ exchanged i (notes a)
  pub reach : (a : ℕ) (note : Note) → IsCount (actors_of script) a → In note (notes a) → GoesToOneOf script.n note.deed

module _ (script : Script) (notes : ℕ → List Note) (trails : ℕ → List Entry) (are : AreExchanged script notes trails) where
  module _ (a : ℕ) (actor : IsCount (actors_of script) a) (deeds : List Deed) (own : (deed : Deed) → In deed deeds → In deed (deeds_of (notes a))) where
    -- an answer that deeds of an actor brought stands in the trail of the centre
    brought : (i : ℕ) (ask : Ask) (say : Say) → HasBrought deeds i ask say → IsCount script.n i × HasAnswer (trails i) say
    brought i ask say has =
        let from = In_from_map (λ (note : Note). note.deed) (notes a) has.deed (own has.deed has.there) in
        let gives : exchanged_in i from.0.deed ≡ Some (ask, say) = ap (exchanged_in i) (sym from.2) ∙ has.exchanged in
        let centre : IsCount script.n i = subst (GoesToOneOf script.n) (exchanged_is i from.0.deed ask say gives).is (are.reach a from.0 actor from.1) in
        (centre, note_entered i a (trails i) (notes a) (are.paired i a centre actor) from.0 ask say from.1 gives)

    -- a record that they brought was sent
    pub brought_sent : (item : Sent) → WasBrought deeds item → WasSent trails item
    brought_sent item was =
        let has = brought was.centre was.ask (Records was.list) was.answer in
        record { centre = was.centre; list = was.list; answer = has.1; has = was.among }

    -- what carries no more than they brought, a carrier may do
    carries_allowed : (deed : Deed) → Carries deeds deed → CarrierAllows trails deed
    carries_allowed (Asked i (ask.Deliver item hops) fate) is = brought_sent (with_hops item hops) is
    carries_allowed (Asked i (ask.Learn from news) fate) is = (brought from ask.Report (Vector news) is).1
    carries_allowed (Asked i (ask.Send after most) fate) is = tt
    carries_allowed (Asked i (ask.Relay origin after most) fate) is = tt
    carries_allowed (Asked i ask.Report fate) is = tt
    carries_allowed (Asked i ask.Prune fate) is = tt
    carries_allowed (Asked i ask.Stop fate) is = tt
    carries_allowed (Asked i ask.Start fate) is = tt
    carries_allowed (Asked i (ask.Hello client need) fate) is = absurd is
    carries_allowed (Asked i (ask.Refresh client here) fate) is = absurd is
    carries_allowed (Asked i (ask.Fetch o here) fate) is = tt
    carries_allowed (Asked i (ask.Delta o from here) fate) is = absurd is
    carries_allowed (Asked i (ask.Commit tx) fate) is = absurd is
    carries_allowed (Did call outcome) is = absurd is
    carries_allowed (Told line) is = tt
    carries_allowed (Spoilt from item why) is = tt

  -- what an actor does one after another, each of which carries by itself, a carrier may do
  pub order_allowed : {S M : Type 0} (Does : S → ℕ → M → List Note → S → Type 0) (section step : ℕ) (s last : S) (ms : List M) (later : List Note) (a : ℕ) → IsCount (actors_of script) a → ((note : Note) → In note later → In note (notes a)) → ((s next : S) (step : ℕ) (m : M) (mine : List Note) → Does s step m mine next → CarriesAll [] (deeds_of mine)) → InOrder Does section step s ms later last → (note : Note) → In note later → CarrierAllows trails note.deed
  order_allowed {S} {M} Does section step s last ms later a actor own carries order = order_each Does section (λ note. CarrierAllows trails note.deed) step s last ms later each order
    where
      each : (s next : S) (step : ℕ) (m : M) (mine : List Note) → In m ms → ((note : Note) → In note mine → In note later) → Does s step m mine next → (note : Note) → In note mine → CarrierAllows trails note.deed
      each s next step m mine here among does note there =
          let so = carries_each [] (deeds_of mine) (carries s next step m mine does) note.deed (In_map (λ (note : Note). note.deed) mine note there) in
          carries_allowed a actor so.front (λ deed front.
          let from = In_from_map (λ (note : Note). note.deed) mine deed (so.among deed front) in
          subst (λ deed. In deed (deeds_of (notes a))) (sym from.2) (In_map (λ (note : Note). note.deed) (notes a) from.0 (own from.0 (among from.0 from.1)))) note.deed so.carries
