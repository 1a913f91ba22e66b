-- The asks of a worker's round go to centres that there are, and a receiver delivers what was sent.
use Rattle.std.proofs.Common.{◌≡◌, ℕ, inl, inr, ⊎_elim, Bool, true, false, cond, ◌==◌, not, List, [], ◌∷◌, map, Option, refl, sym, subst, arith}
use Rattle.std.proofs.lemmas.List.Elements.{All-nil}
use Rattle.list_core.specs.Members.{In}
use Rattle.list_core.proofs.Members.{In_either, In_from_filter}
use Rattle.list_core.proofs.Ranges.{In_from_range}
use Rattle.vv_core.specs.Vectors.{at, centres}
use Rattle.dc_talk.specs.declared.sent.Sent.{Sent}
use Rattle.dc_talk.specs.declared.ask.Ask.TheVariants.{Send, Deliver, Report, Prune}
use Rattle.dc_talk.specs.declared.say.Say.{Say}
use Rattle.dc_talk.specs.declared.say.Say.TheVariants.{Vector}
use Rattle.dc_talk.specs.declared.log.Fate.{Fate}
use Rattle.dc_talk.specs.declared.log.Fate.TheVariants.{Unheard}
use Rattle.dc_talk.specs.declared.log.Deed.{Deed}
use Rattle.dc_talk.specs.declared.log.Deed.TheVariants.{Asked, Spoilt}
use Rattle.dc_talk.specs.declared.line.Line.{Line}
use Rattle.dc_talk.specs.declared.links.FrameFault.{FrameFault}
use Rattle.dc_talk.specs.declared.links.Arrival.{Arrival}
use Rattle.dc_talk.specs.declared.links.Arrival.TheVariants as arrival
use Rattle.dc_talk.specs.Entries.{Entry}
use Rattle.dc_talk.specs.Logs.{marked}
use Rattle.script_core.specs.declared.rounds.TheConstants.{MOST_MAILED}
use Rattle.script_core.specs.declared.rounds.Role.{Role}
use Rattle.script_core.specs.declared.rounds.Role.TheVariants.{Sender, Receiver, Reporter, Pruner}
use Rattle.script_core.specs.Steps.{IsCount}
use Rattle.script_core.specs.Carrying.{Route, route, Tells, InTurn, no_turn, next_turn}
use Rattle.script_core.specs.Orders.{Orders}
use Rattle.script_core.specs.Rounds.{worker_of, others, AfterNeeded, Mails, SenderDeeds, BringsOne, Brings, ReceiverDeeds, ReporterDeeds, is_prune_round, PrunerDeeds}
use Rattle.run_book.specs.Happenings.{GoesToOneOf, WasSent, CarrierAllows, trails_after, CarrierDoes, IsCarrier}
use Rattle.run_book.proofs.Happenings.Reach.{AllGo, one_go}
use Rattle.run_book.proofs.Happenings.OperatorSteps.{IsWithin, none_go, ask_go, tells_go, turns_go}
use Rattle.run_book.proofs.Happenings.Sending.{sent_still}

-- a worker of one of n centres is a carrier
pub worker_carries : (n clients i : ℕ) (role : Role) → IsCount n i → IsCarrier n clients (worker_of clients i role)
worker_carries n clients i Sender range = record { who = inr (omega arith, omega (arith, range.0, range.1)) }
worker_carries n clients i Receiver range = record { who = inr (omega arith, omega (arith, range.0, range.1)) }
worker_carries n clients i Reporter range = record { who = inr (omega arith, omega (arith, range.0, range.1)) }
worker_carries n clients i Pruner range = record { who = inr (omega arith, omega (arith, range.0, range.1)) }

-- ---- which centres are asked

module _ (n : ℕ) where
  -- the others are centres that there are
  pub others_within : (i j : ℕ) → In j (others n i) → IsCount n j
  others_within i j there =
      let low = In_from_range 1 n j (In_from_filter (λ j. not (j == i)) (centres n) j there).0 in
      (low.0, omega (arith, low.1))

  -- what follows the report to a sender
  after_needed_go : (r : Route) (say : Say) (deeds : List Deed) (items : List Sent) → IsWithin n r → AfterNeeded r say deeds items → AllGo n deeds
  after_needed_go r (Vector vector) deeds items within is = ask_go n r.from (Send (at vector r.from) MOST_MAILED) is.0 [] deeds within.0 is.1 (All-nil (GoesToOneOf n))
  after_needed_go r say deeds items within is = none_go n deeds is.0

  -- the asks of a sender over one route
  mails_go : (r : Route) (deeds : List Deed) (items : List Sent) → IsWithin n r → Mails r deeds items → AllGo n deeds
  mails_go r deeds items within is = ask_go n r.to Report is.say is.later deeds within.1 is.whole (after_needed_go r is.say is.later items within is.follows)

  -- those of a sender
  pub sender_go : (i : ℕ) (deeds : List Deed) → IsCount n i → SenderDeeds n i deeds → AllGo n deeds
  sender_go i deeds range is = turns_go n (λ to deeds. (items : List Sent) × Mails (route i to) deeds items) (others n i) deeds (λ to ds there does. mails_go (route i to) ds does.0 (range, others_within i to there) does.1) is

  -- those of a reporter
  pub reporter_go : (i : ℕ) (deeds : List Deed) → IsCount n i → ReporterDeeds n i deeds → AllGo n deeds
  reporter_go i deeds range is = turns_go n (λ to deeds. (line : Option Line) × Tells (route i to) deeds line) (others n i) deeds (λ to ds there does. tells_go n (route i to) ds does.0 (range, others_within i to there) does.1) is

  -- those of a pruner
  pub pruner_go : (i round : ℕ) (deeds : List Deed) → IsCount n i → PrunerDeeds i round deeds → AllGo n deeds
  pruner_go i round deeds range is = go (is_prune_round round) is
    where
      go : (test : Bool) → cond test (Orders i Prune deeds) (deeds ≡ []) → AllGo n deeds
      go true asks = ask_go n i Prune asks.0 [] deeds range asks.1 (All-nil (GoesToOneOf n))
      go false none = none_go n deeds none

  -- what comes of an item: a spoilt one goes to no centre
  brought_goes : (r : Route) (item : Arrival Sent) (deed : Deed) → IsCount n r.to → BringsOne r item deed → GoesToOneOf n deed
  brought_goes r (arrival.Whole item) deed range is = subst (GoesToOneOf n) (sym is.1) range
  brought_goes r (arrival.Spoilt number why) deed range is = subst (GoesToOneOf n) (sym is) tt

  -- so it is with each item
  brings_go : (r : Route) (items : List (Arrival Sent)) (deeds : List Deed) → IsCount n r.to → Brings r items deeds → AllGo n deeds
  brings_go r [] deeds range is = none_go n deeds is
  brings_go r (item ∷ items) [] range is = absurd is
  brings_go r (item ∷ items) (deed ∷ deeds) range is = one_go n deed deeds (brought_goes r item deed range is.0) (brings_go r items deeds range is.1)

  -- those of a receiver
  pub receiver_go : (j : ℕ) (due : ℕ → List (Arrival Sent)) (deeds : List Deed) → IsCount n j → ReceiverDeeds n j due deeds → AllGo n deeds
  receiver_go j due deeds range is = turns_go n (λ from deeds. Brings (route from j) (due from) deeds) (others n j) deeds (λ from ds there does. brings_go (route from j) (due from) ds range does) is

-- ---- what a receiver delivers

-- the deed delivers a record that was sent, or notes that an item was no record
pub data DeliversSent (trails : ℕ → List Entry) (deed : Deed) : Type 0 where
  delivered : (centre : ℕ) (item : Sent) (fate : Fate) → deed ≡ Asked centre (Deliver item.item item.hops) fate → WasSent trails item → DeliversSent trails deed
  was_spoilt : (from item : ℕ) (why : FrameFault) → deed ≡ Spoilt from item why → DeliversSent trails deed

-- a carrier may do so
pub delivery_allowed : (trails : ℕ → List Entry) (deed : Deed) → DeliversSent trails deed → CarrierAllows trails deed
delivery_allowed trails deed (delivered centre item fate is sent) = subst (CarrierAllows trails) (sym is) sent
delivery_allowed trails deed (was_spoilt from item why is) = subst (CarrierAllows trails) (sym is) tt

-- so it is after one more deed
delivers_still : (actor : ℕ) (done deed : Deed) (trails : ℕ → List Entry) → DeliversSent trails deed → DeliversSent (trails_after actor done trails) deed
delivers_still actor done deed trails (delivered centre item fate is sent) = delivered centre item fate is (sent_still actor done item trails sent)
delivers_still actor done deed trails (was_spoilt from item why is) = was_spoilt from item why is

-- such deeds a carrier may do one after another
pub deliveries_do : (actor section step : ℕ) (deeds : List Deed) (trails : ℕ → List Entry) → ((deed : Deed) → In deed deeds → DeliversSent trails deed) → CarrierDoes actor trails (map (marked section step) deeds)
deliveries_do actor section step [] trails each = tt
deliveries_do actor section step (deed ∷ deeds) trails each = (
  delivery_allowed trails deed (each deed (inl refl)),
  deliveries_do actor section step deeds (trails_after actor deed trails) (λ other there. delivers_still actor deed other trails (each other (inr there))),
)

-- what comes of an item, where a whole one was sent
brought_sent : (trails : ℕ → List Entry) (r : Route) (item : Arrival Sent) (deed : Deed) → ((sent : Sent) → arrival.Whole sent ≡ item → WasSent trails sent) → BringsOne r item deed → DeliversSent trails deed
brought_sent trails r (arrival.Whole item) deed sent is = delivered r.to item (Unheard is.0) is.1 (sent item refl)
brought_sent trails r (arrival.Spoilt number why) deed sent is = was_spoilt r.from number why is

-- what comes of items, of which the whole ones were sent
pub brings_sent : (trails : ℕ → List Entry) (r : Route) (items : List (Arrival Sent)) (deeds : List Deed) → ((item : Sent) → In (arrival.Whole item) items → WasSent trails item) → Brings r items deeds → (deed : Deed) → In deed deeds → DeliversSent trails deed
brings_sent trails r [] deeds sent is deed there = absurd (subst (In deed) is there)
brings_sent trails r (item ∷ items) [] sent is deed there = absurd there
brings_sent trails r (item ∷ items) (first ∷ deeds) sent is deed (inl same) = brought_sent trails r item deed (λ whole here. sent whole (inl here)) (subst (BringsOne r item) (sym same) is.0)
brings_sent trails r (item ∷ items) (first ∷ deeds) sent is deed (inr there) = brings_sent trails r items deeds (λ other among. sent other (inr among)) is.1 deed there

-- what is done in turn, each of which delivers what was sent
pub turns_sent : (trails : ℕ → List Entry) (Does : ℕ → List Deed → Type 0) (xs : List ℕ) (deeds : List Deed) → ((x : ℕ) (deeds : List Deed) → In x xs → Does x deeds → (deed : Deed) → In deed deeds → DeliversSent trails deed) → InTurn Does xs deeds → (deed : Deed) → In deed deeds → DeliversSent trails deed
turns_sent trails Does [] deeds each no_turn deed there = absurd there
turns_sent trails Does (x ∷ xs) deeds each (next_turn first later whole does rest) deed there = ⊎_elim
    (λ front. each x first (inl refl) does deed front)
    (λ back. turns_sent trails Does xs later (λ y ds among. each y ds (inr among)) rest deed back)
    (In_either first later deed (subst (In deed) whole there))

-- a receiver to which items are due of which the whole ones were sent, does as a carrier may
pub receiver_does : (actor n j section step : ℕ) (due : ℕ → List (Arrival Sent)) (deeds : List Deed) (trails : ℕ → List Entry) → ((from : ℕ) → IsCount n from → (item : Sent) → In (arrival.Whole item) (due from) → WasSent trails item) → ReceiverDeeds n j due deeds → CarrierDoes actor trails (map (marked section step) deeds)
receiver_does actor n j section step due deeds trails sent is =
    deliveries_do actor section step deeds trails
    (turns_sent trails (λ from deeds. Brings (route from j) (due from) deeds) (others n j) deeds (λ from ds there does. brings_sent trails (route from j) (due from) ds (sent from (others_within n j from there)) does) is)
