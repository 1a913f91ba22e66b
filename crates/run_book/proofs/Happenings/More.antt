-- What happened, with more of one actor.
use Rattle.std.proofs.Common.{◌≡◌, ℕ, ◌+◌, ◌≤◌, inl, inr, List, [], ◌∷◌, ◌++◌, map, refl, sym, ap, ◌∙◌, subst, append_assoc}
use Rattle.std.specs.Prelude.{All}
use Rattle.std.specs.List.{cons_option}
use Rattle.std.proofs.lemmas.List.{append-nil}
use Rattle.std.proofs.lemmas.List.Sums.{fold_push}
use Rattle.std.proofs.lemmas.List.Elements.{All-head, All-tail}
use Rattle.list_core.specs.Members.{In}
use Rattle.list_core.specs.Moments.{Each}
use Rattle.list_core.proofs.Moments.{each_none, each_more}
use Rattle.dc_talk.specs.declared.ask.Ask.{Ask}
use Rattle.dc_talk.specs.declared.ask.Ask.TheVariants as ask
use Rattle.dc_talk.specs.declared.say.Say.{Say}
use Rattle.dc_talk.specs.declared.say.Say.TheVariants.{Records, Vector}
use Rattle.dc_talk.specs.declared.log.Deed.{Deed}
use Rattle.dc_talk.specs.declared.log.Deed.TheVariants.{Did, Asked, Told, Spoilt}
use Rattle.dc_talk.specs.declared.log.Note.{Note}
use Rattle.dc_talk.specs.Entries.{Entry}
use Rattle.dc_talk.specs.Clients.{Client, new_client}
use Rattle.dc_talk.specs.Rule.{Allows, after, client_after}
use Rattle.run_book.specs.Setups.{Setup}
use Rattle.run_book.specs.Happenings.{Happened, notes_by, entry_in, trail_in, trails_in, happening, GoesToOneOf, HasAnswer, CarrierAsks, CarrierAllows, ClientDoes, trails_after, CarrierDoes, IsCarrier, Happens, AreHistories, AreTogether}
use Rattle.run_book.proofs.Happenings.Entries.{own_then, trail_more}

-- ---- by equal trails

-- an answer of an equal trail
has_as : (trail other : List Entry) (say : Say) → trail ≡ other → HasAnswer trail say → HasAnswer other say
has_as trail other say same has = record { entry = has.entry; there = subst (λ es. In has.entry es) same has.there; says = has.says }

-- what a carrier may ask by some trails it may ask by equal ones
asks_as : (trails others : ℕ → List Entry) → ((i : ℕ) → trails i ≡ others i) → (a : Ask) → CarrierAsks trails a → CarrierAsks others a
asks_as trails others same (ask.Deliver item hops) h = record { centre = h.centre; list = h.list; answer = has_as (trails h.centre) (others h.centre) (Records h.list) (same h.centre) h.answer; has = h.has }
asks_as trails others same (ask.Learn from news) h = has_as (trails from) (others from) (Vector news) (same from) h
asks_as trails others same (ask.Send after most) h = tt
asks_as trails others same (ask.Relay origin after most) h = tt
asks_as trails others same ask.Report h = tt
asks_as trails others same ask.Prune h = tt
asks_as trails others same ask.Stop h = tt
asks_as trails others same ask.Start h = tt
asks_as trails others same (ask.Hello client need) h = absurd h
asks_as trails others same (ask.Refresh client here) h = absurd h
asks_as trails others same (ask.Fetch o here) h = tt
asks_as trails others same (ask.Delta o from here) h = absurd h
asks_as trails others same (ask.Commit tx) h = absurd h

-- and so with what it may do
pub allows_as : (trails others : ℕ → List Entry) → ((i : ℕ) → trails i ≡ others i) → (deed : Deed) → CarrierAllows trails deed → CarrierAllows others deed
allows_as trails others same (Asked i a fate) h = asks_as trails others same a h
allows_as trails others same (Did call outcome) h = absurd h
allows_as trails others same (Told line) h = tt
allows_as trails others same (Spoilt from item why) h = tt

-- ---- each may happen in turn

module _ (n : ℕ) (setup : Setup) where
  -- more of a client
  client_each : (client : ℕ) → (1 ≤ client) × (client ≤ setup.clients) → (more : List Note) (all : List Happened) (s : Client) (before : List Note) → before ≡ notes_by (client + 1) all → s ≡ client_after n client setup.capacity before → All (GoesToOneOf n) (map (λ (note : Note). note.deed) more) → ClientDoes s before more → Each (Happens n setup) all → Each (Happens n setup) (all ++ happening (client + 1) more)
  client_each client range [] all s before is state reach does each = subst (Each (Happens n setup)) (sym (append-nil all)) each
  client_each client range (note ∷ more) all s before is state reach does each =
      let one : Happened = record { actor = client + 1; note = note } in
      let allowed : Allows (client_after n client setup.capacity (notes_by (client + 1) all)) (notes_by (client + 1) all) note.deed = subst (λ ns. Allows (client_after n client setup.capacity ns) ns note.deed) is (subst (λ s. Allows s before note.deed) state does.0) in
      let here : Happens n setup all one = record { reach = All-head (GoesToOneOf n) note.deed (map (λ (note : Note). note.deed) more) reach; by = inl (record { client = client; range = range; actor = refl; allowed = allowed }) } in
      let notes : before ++ note ∷ [] ≡ notes_by (client + 1) (all ++ one ∷ []) = ap (λ ns. ns ++ note ∷ []) is ∙ sym (own_then (client + 1) all (note ∷ [])) in
      let next : after s note.deed ≡ client_after n client setup.capacity (before ++ note ∷ []) = ap (λ s. after s note.deed) state ∙ sym (fold_push (λ (s : Client) (note : Note). after s note.deed) (new_client n client setup.capacity) before note) in
      subst (Each (Happens n setup)) (append_assoc all (one ∷ []) (happening (client + 1) more))
      (client_each client range more (all ++ one ∷ []) (after s note.deed) (before ++ note ∷ []) notes next (All-tail (GoesToOneOf n) note.deed (map (λ (note : Note). note.deed) more) reach) does.1 (each_more (Happens n setup) all one each here))

  -- more of the operator or of a worker
  carrier_each : (actor : ℕ) → IsCarrier n setup.clients actor → (more : List Note) (all : List Happened) (trails : ℕ → List Entry) → ((i : ℕ) → trails i ≡ trail_in i all) → All (GoesToOneOf n) (map (λ (note : Note). note.deed) more) → CarrierDoes actor trails more → Each (Happens n setup) all → Each (Happens n setup) (all ++ happening actor more)
  carrier_each actor carrier [] all trails same reach does each = subst (Each (Happens n setup)) (sym (append-nil all)) each
  carrier_each actor carrier (note ∷ more) all trails same reach does each =
      let one : Happened = record { actor = actor; note = note } in
      let here : Happens n setup all one = record { reach = All-head (GoesToOneOf n) note.deed (map (λ (note : Note). note.deed) more) reach; by = inr (record { carrier = carrier; allowed = allows_as trails (trails_in all) same note.deed does.0 }) } in
      subst (Each (Happens n setup)) (append_assoc all (one ∷ []) (happening actor more))
      (carrier_each actor carrier more (all ++ one ∷ []) (trails_after actor note.deed trails) (λ i. ap (λ es. es ++ cons_option (entry_in i one) []) (same i) ∙ sym (trail_more i all one)) (All-tail (GoesToOneOf n) note.deed (map (λ (note : Note). note.deed) more) reach) does.1 (each_more (Happens n setup) all one each here))

-- ---- what happened together

module _ (n k : ℕ) (setup : Setup) where
  -- nothing happened yet
  pub together_none : AreTogether n k setup []
  together_none = record { histories = λ i low high. each_none _; each = each_none (Happens n setup) }

  -- one more
  pub together_more : (all : List Happened) (one : Happened) → AreTogether n k setup all → AreHistories n k setup (all ++ one ∷ []) → Happens n setup all one → AreTogether n k setup (all ++ one ∷ [])
  together_more all one t histories here = record { histories = histories; each = each_more (Happens n setup) all one t.each here }

  -- more of a client
  pub client_then : (client : ℕ) (all : List Happened) (more : List Note) → (1 ≤ client) × (client ≤ setup.clients) → AreTogether n k setup all → AreHistories n k setup (all ++ happening (client + 1) more) → All (GoesToOneOf n) (map (λ (note : Note). note.deed) more) → ClientDoes (client_after n client setup.capacity (notes_by (client + 1) all)) (notes_by (client + 1) all) more → AreTogether n k setup (all ++ happening (client + 1) more)
  client_then client all more range t histories reach does = record {
    histories = histories;
    each = client_each n setup client range more all (client_after n client setup.capacity (notes_by (client + 1) all)) (notes_by (client + 1) all) refl refl reach does t.each;
  }

  -- more of the operator or of a worker
  pub carrier_then : (actor : ℕ) (all : List Happened) (more : List Note) → IsCarrier n setup.clients actor → AreTogether n k setup all → AreHistories n k setup (all ++ happening actor more) → All (GoesToOneOf n) (map (λ (note : Note). note.deed) more) → CarrierDoes actor (trails_in all) more → AreTogether n k setup (all ++ happening actor more)
  carrier_then actor all more carrier t histories reach does = record {
    histories = histories;
    each = carrier_each n setup actor carrier more all (trails_in all) (λ i. refl) reach does t.each;
  }

-- the operator is a carrier
pub operator_carries : (n clients : ℕ) → IsCarrier n clients 1
operator_carries n clients = record { who = inl refl }
