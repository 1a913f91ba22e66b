-- What holds of each that happened, at its place, and of the trails and logs of it.
use Rattle.std.proofs.Common.{◌≡◌, ℕ, ◌+◌, ◌-◌, ◌*◌, ◌≤◌, ⊎_elim, List, length, take, Some, sym, ap, ◌∙◌, subst, arith}
use Rattle.std.specs.Prelude.{slice_get}
use Rattle.list_core.specs.Members.{In}
use Rattle.std.proofs.lemmas.Option.{slice_get_within}
use Rattle.std.proofs.lemmas.List.{length-take, take-take}
use Rattle.std.specs.Option.{option_map}
use Rattle.list_core.proofs.Gets.{get_In, In_get, get_in_take}
use Rattle.list_core.proofs.Members.{In_take}
use Rattle.list_core.proofs.Passing.{In_filter_map, In_from_filter_map}
use Rattle.tx_core.specs.declared.tx.Tx.{Tx}
use Rattle.tx_core.specs.declared.tx.Record.{Record}
use Rattle.dc_talk.specs.Sents.{with_hops}
use Rattle.dc_talk.specs.declared.ask.Ask.{Ask}
use Rattle.dc_talk.specs.declared.ask.Ask.TheVariants.{Refresh, Commit, Deliver, Learn}
use Rattle.dc_talk.specs.declared.say.Say.{Say}
use Rattle.dc_talk.specs.declared.say.Say.TheVariants.{Vector}
use Rattle.dc_talk.specs.declared.calls.Call.{Call}
use Rattle.dc_talk.specs.declared.calls.Outcome.{Outcome}
use Rattle.dc_talk.specs.declared.log.Fate.{Fate}
use Rattle.dc_talk.specs.declared.log.Deed.{Deed}
use Rattle.dc_talk.specs.declared.log.Deed.TheVariants.{Did, Asked}
use Rattle.dc_talk.specs.declared.log.Note.{Note}
use Rattle.dc_talk.specs.Entries.{Entry}
use Rattle.dc_talk.specs.Logs.{answered, exchanged_in, entry_for}
use Rattle.dc_talk.specs.Answers.{answer}
use Rattle.dc_talk.specs.Rule.{Allows, Follows, client_after, commits_of}
use Rattle.run_book.specs.Setups.{Setup, settings_among}
use Rattle.run_book.specs.Parts.{IsClient}
use Rattle.run_book.specs.Happenings.{Happened, note_by, notes_by, entry_in, trail_in, trails_in, GoesToOneOf, HasAnswer, WasSent, CarrierAllows, IsCarrier, ByClient, ByCarrier, AreTogether}
use Rattle.run_book.proofs.Pairing.{exchanges}
use Rattle.run_book.proofs.OwnAsks.{own_commit, delivers_none, teaches_none}
use Rattle.run_book.proofs.Filtered.{from_place, each_filtered, to_place}
use Rattle.run_book.proofs.Happenings.Entries.{IsMade, made_by, note_made, own_note, answer_given}

-- what was answered by a moment was answered in all
pub answered_later : (all : List Happened) (p i : ℕ) (say : Say) → HasAnswer (trail_in i (take p all)) say → HasAnswer (trail_in i all) say
answered_later all p i say has =
    let from = In_from_filter_map (entry_in i) (take p all) has.entry has.there in
    record { entry = has.entry; there = In_filter_map (entry_in i) all from.0 has.entry (In_take p all from.0 from.1) from.2; says = has.says }

module _ (n k : ℕ) (setup : Setup) (all : List Happened) (t : AreTogether n k setup all) where
  -- ---- where it stands

  -- where a note of an actor stands in the list
  pub record IsNoted (a m : ℕ) (note : Note) : Type 0 where
    pub place : ℕ
    pub it : Happened
    pub there : slice_get all place ≡ Some it
    pub actor : it.actor ≡ a
    pub note_is : it.note ≡ note
    pub front : notes_by a (take place all) ≡ take m (notes_by a all)

  -- each note of an actor stands there
  pub noted : (a m : ℕ) (note : Note) → slice_get (notes_by a all) m ≡ Some note → IsNoted a m note
  noted a m note there =
      let r = from_place (note_by a) all m note there in
      let made = note_made a r.item note r.gives in
      record { place = r.place; it = r.item; there = r.there; actor = made.0; note_is = made.1; front = r.front }

  -- where an entry of a trail stands in the list
  pub record IsEntered (i q : ℕ) (entry : Entry) : Type 0 where
    pub place : ℕ
    pub it : Happened
    pub there : slice_get all place ≡ Some it
    pub makes : entry_in i it ≡ Some entry
    pub made : IsMade i it entry
    pub front : trail_in i (take place all) ≡ take q (trail_in i all)

  -- each entry of a trail stands there
  pub entered : (i q : ℕ) (entry : Entry) → slice_get (trail_in i all) q ≡ Some entry → IsEntered i q entry
  entered i q entry there =
      let r = from_place (entry_in i) all q entry there in
      record { place = r.place; it = r.item; there = r.there; makes = r.gives; made = made_by i r.item entry r.gives; front = r.front }

  -- ---- who does what

  -- the actor of a client's note
  client_actor : (p : ℕ) (h : Happened) → ByClient n setup (take p all) h → IsClient setup h.actor
  client_actor p h c = record { low = omega (arith, c.actor, c.range.0); high = omega (arith, c.actor, c.range.1) }

  -- one who is a client is no carrier
  apart : (a : ℕ) → IsClient setup a → IsCarrier n setup.clients a → ⊥
  apart a client carrier = ⊎_elim (λ first. omega (arith, first, client.low)) (λ (worker : (setup.clients + 2 ≤ a) × (a ≤ 1 + setup.clients + 4 * n)). omega (arith, worker.0, client.high)) carrier.who

  -- each who did something is an actor
  pub actor_range : (p : ℕ) (h : Happened) → slice_get all p ≡ Some h → (1 ≤ h.actor) × (h.actor ≤ 1 + setup.clients + 4 * n)
  actor_range p h there =
      ⊎_elim
      (λ (c : ByClient n setup (take p all) h). (omega (arith, c.actor), omega (arith, c.actor, c.range.1)))
      (λ (c : ByCarrier n setup (take p all) h). ⊎_elim (λ first. (omega (arith, first), omega (arith, first))) (λ (worker : (setup.clients + 2 ≤ h.actor) × (h.actor ≤ 1 + setup.clients + 4 * n)). (omega (arith, worker.0), worker.1)) c.carrier.who)
      (t.each.holds p h there).by

  -- each client follows the rule
  pub follows : (a : ℕ) → IsClient setup a → Follows n (a - 1) setup.capacity (notes_by a all)
  follows a client = each_filtered (note_by a) all (λ before note. Allows (client_after n (a - 1) setup.capacity before) before note.deed) (λ p h note there makes.
      let made = note_made a h note makes in
      ⊎_elim
      (λ (c : ByClient n setup (take p all) h).
      let who : c.client ≡ a - 1 = omega (arith, c.actor, made.0) in
      subst (λ (note : Note). Allows (client_after n (a - 1) setup.capacity (notes_by a (take p all))) (notes_by a (take p all)) note.deed) made.1
      (subst (λ a'. Allows (client_after n (a - 1) setup.capacity (notes_by a' (take p all))) (notes_by a' (take p all)) h.note.deed) made.0
      (subst (λ client. Allows (client_after n client setup.capacity (notes_by h.actor (take p all))) (notes_by h.actor (take p all)) h.note.deed) who c.allowed)))
      (λ (c : ByCarrier n setup (take p all) h). absurd (apart a client (subst (IsCarrier n setup.clients) made.0 c.carrier)))
      (t.each.holds p h there).by)

  -- a deed of the operator or of a worker is one that it may do
  helps : (p : ℕ) (h : Happened) (deed : Deed) → h.note.deed ≡ deed → ByCarrier n setup (take p all) h → CarrierAllows (trails_in (take p all)) deed
  helps p h deed is c = subst (CarrierAllows (trails_in (take p all))) is c.allowed

  -- only clients call their sessions
  pub calls : (p : ℕ) (h : Happened) (call : Call) (outcome : Outcome) → slice_get all p ≡ Some h → h.note.deed ≡ Did call outcome → IsClient setup h.actor
  calls p h call outcome there is = ⊎_elim (λ c. client_actor p h c) (λ c. absurd (helps p h (Did call outcome) is c)) (t.each.holds p h there).by

  -- only clients refresh
  pub refreshes : (p : ℕ) (h : Happened) (i client : ℕ) (here : List ℕ) (fate : Fate) → slice_get all p ≡ Some h → h.note.deed ≡ Asked i (Refresh client here) fate → IsClient setup h.actor
  refreshes p h i client here fate there is = ⊎_elim (λ c. client_actor p h c) (λ c. absurd (helps p h (Asked i (Refresh client here) fate) is c)) (t.each.holds p h there).by

  -- only clients ask for commits
  pub commits : (p : ℕ) (h : Happened) (i : ℕ) (tx : Tx) (fate : Fate) → slice_get all p ≡ Some h → h.note.deed ≡ Asked i (Commit tx) fate → IsClient setup h.actor
  commits p h i tx fate there is = ⊎_elim (λ c. client_actor p h c) (λ c. absurd (helps p h (Asked i (Commit tx) fate) is c)) (t.each.holds p h there).by

  -- a commit that a client asked for is one of those before it
  pub own : (a m : ℕ) (note : Note) (i : ℕ) (tx : Tx) (fate : Fate) → IsClient setup a → slice_get (notes_by a all) m ≡ Some note → note.deed ≡ Asked i (Commit tx) fate → In tx (commits_of n (a - 1) setup.capacity (take m (notes_by a all)))
  own a m note i tx fate client there is = own_commit n (a - 1) setup.capacity (notes_by a all) (follows a client) m note i tx fate there is

  -- a note has a place among its actor's notes
  own_place : (p : ℕ) (h : Happened) → slice_get all p ≡ Some h → (m : ℕ) × (slice_get (notes_by h.actor all) m ≡ Some h.note)
  own_place p h there = In_get (notes_by h.actor all) h.note (In_filter_map (note_by h.actor) all h h.note (get_In all p h there) (own_note h))

  -- what is delivered was sent before
  pub delivered : (p : ℕ) (h : Happened) (i : ℕ) (fate : Fate) (item : Record) (hops : ℕ) → slice_get all p ≡ Some h → h.note.deed ≡ Asked i (Deliver item hops) fate → WasSent (trails_in (take p all)) (with_hops item hops)
  delivered p h i fate item hops there is =
      ⊎_elim
      (λ (c : ByClient n setup (take p all) h).
      let at = own_place p h there in
      absurd (delivers_none n (h.actor - 1) setup.capacity (notes_by h.actor all) (follows h.actor (client_actor p h c)) at.0 h.note i fate item hops at.1 is))
      (λ (c : ByCarrier n setup (take p all) h). helps p h (Asked i (Deliver item hops) fate) is c)
      (t.each.holds p h there).by

  -- what is learned was reported before
  pub learned : (p : ℕ) (h : Happened) (i : ℕ) (fate : Fate) (from : ℕ) (news : List ℕ) → slice_get all p ≡ Some h → h.note.deed ≡ Asked i (Learn from news) fate → HasAnswer (trail_in from (take p all)) (Vector news)
  learned p h i fate from news there is =
      ⊎_elim
      (λ (c : ByClient n setup (take p all) h).
      let at = own_place p h there in
      absurd (teaches_none n (h.actor - 1) setup.capacity (notes_by h.actor all) (follows h.actor (client_actor p h c)) at.0 h.note i fate from news at.1 is))
      (λ (c : ByCarrier n setup (take p all) h). helps p h (Asked i (Learn from news) fate) is c)
      (t.each.holds p h there).by

  -- ---- which centre, and what it answered

  -- an ask went to a centre
  pub reached_one : (p : ℕ) (h : Happened) (i : ℕ) (ask : Ask) (fate : Fate) → slice_get all p ≡ Some h → h.note.deed ≡ Asked i ask fate → (1 ≤ i) × (i ≤ n)
  reached_one p h i ask fate there is = subst (GoesToOneOf n) is (t.each.holds p h there).reach

  -- what a centre answered is its answer after the trail by then
  pub answered_so : (p : ℕ) (h : Happened) (i : ℕ) (entry : Entry) → slice_get all p ≡ Some h → entry_in i h ≡ Some entry → entry.say ≡ answer (settings_among n k setup i) (trail_in i (take p all)) entry.ask
  answered_so p h i entry there makes =
      let made = made_by i h entry makes in
      let centre = reached_one p h i entry.ask made.exchange.fate there made.exchange.is in
      let at = to_place (entry_in i) all p h entry there makes in
      (t.histories i centre.0 centre.1).holds (length (trail_in i (take p all))) entry at.there ∙ ap (λ es. answer (settings_among n k setup i) es entry.ask) at.front

  -- so where a deed tells of it
  pub answered_deed : (p : ℕ) (h : Happened) (i : ℕ) (ask : Ask) (fate : Fate) (say : Say) → slice_get all p ≡ Some h → h.note.deed ≡ Asked i ask fate → answered fate ≡ Some say → say ≡ answer (settings_among n k setup i) (trail_in i (take p all)) ask
  answered_deed p h i ask fate say there is told = answered_so p h i (entry_for h.actor (ask, say)) there (ap (λ deed. option_map (entry_for h.actor) (exchanged_in i deed)) is ∙ ap (option_map (entry_for h.actor)) (exchanges i ask say fate told))

  -- and so in the front of a trail
  pub answered_by_then : (p i q : ℕ) (entry : Entry) → slice_get (trail_in i (take p all)) q ≡ Some entry → entry.say ≡ answer (settings_among n k setup i) (take q (trail_in i (take p all))) entry.ask
  answered_by_then p i q entry there =
      let r = from_place (entry_in i) (take p all) q entry there in
      let below = slice_get_within (take p all) r.place r.item r.there in
      let long = length-take p all in
      let front : trail_in i (take r.place all) ≡ take q (trail_in i (take p all)) = ap (trail_in i) (sym (take-take r.place p all (omega (arith, below, long)))) ∙ r.front in
      answered_so r.place r.item i entry (get_in_take all p r.place r.item r.there) r.gives ∙ ap (λ es. answer (settings_among n k setup i) es entry.ask) front

  -- an answer was given by one of the centres, in an entry of its trail
  pub record IsInTrail (i : ℕ) (say : Say) : Type 0 where
    pub centre : (1 ≤ i) × (i ≤ n)
    pub place : ℕ
    pub entry : Entry
    pub there : slice_get (trail_in i all) place ≡ Some entry
    pub says : entry.say ≡ say

  -- so each answer of a trail
  pub answer_there : (i : ℕ) (say : Say) → HasAnswer (trail_in i all) say → IsInTrail i say
  answer_there i say has =
      let was = answer_given i all say has in
      let at = In_get all was.it was.there in
      let e = In_get (trail_in i all) has.entry has.there in
      record { centre = reached_one at.0 was.it i was.ask was.fate at.1 was.is; place = e.0; entry = has.entry; there = e.1; says = has.says }
