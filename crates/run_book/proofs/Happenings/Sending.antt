-- What was sent and what was answered stays so as the trails grow, and a record of an answer was sent by its origin.
use Rattle.std.proofs.Common.{ℕ, List, [], ◌∷◌, ◌++◌, sym, subst, append_assoc}
use Rattle.std.specs.Prelude.{fold}
use Rattle.std.proofs.lemmas.List.{append-nil}
use Rattle.std.proofs.lemmas.List.Elements.{filter_map-append}
use Rattle.list_core.specs.Members.{In}
use Rattle.list_core.proofs.Members.{In_left}
use Rattle.dc_talk.specs.declared.sent.Sent.{Sent}
use Rattle.dc_talk.specs.declared.say.Say.{Say}
use Rattle.dc_talk.specs.declared.say.Say.TheVariants.{Records}
use Rattle.dc_talk.specs.declared.log.Deed.{Deed}
use Rattle.dc_talk.specs.declared.log.Note.{Note}
use Rattle.dc_talk.specs.Entries.{Entry}
use Rattle.dc_talk.specs.Logs.{entries_made}
use Rattle.dc_talk.specs.Clients.{Client}
use Rattle.dc_talk.specs.Rule.{Allows, after}
use Rattle.run_book.specs.Happenings.{Happened, entry_in, trail_in, trails_in, HasAnswer, WasSent, CarrierAllows, ClientDoes, trails_after, CarrierDoes}

-- ---- trails that grow

-- an answer of a trail stands in a longer one
pub answer_still : (trail more : List Entry) (say : Say) → HasAnswer trail say → HasAnswer (trail ++ more) say
answer_still trail more say has = record { entry = has.entry; there = In_left trail more has.entry has.there; says = has.says }

-- what was sent was sent after one more deed
pub sent_still : (actor : ℕ) (deed : Deed) (item : Sent) (trails : ℕ → List Entry) → WasSent trails item → WasSent (trails_after actor deed trails) item
sent_still actor deed item trails was = record { centre = was.centre; list = was.list; answer = answer_still (trails was.centre) (entries_made actor was.centre (deed ∷ [])) (Records was.list) was.answer; has = was.has }

-- and after whatever happened later
pub sent_later : (all more : List Happened) (item : Sent) → WasSent (trails_in all) item → WasSent (trails_in (all ++ more)) item
sent_later all more item was =
    let i : ℕ = was.centre in
    record { centre = i; list = was.list; answer = subst (λ es. HasAnswer es (Records was.list)) (sym (filter_map-append (entry_in i) all more)) (answer_still (trail_in i all) (trail_in i more) (Records was.list) was.answer); has = was.has }

-- a record of an answer with records was sent by the centre that answered
pub sent_before : (all : List Happened) (from : ℕ) (list : List Sent) (item : Sent) → HasAnswer (trail_in from all) (Records list) → In item list → WasSent (trails_in all) item
sent_before all from list item has there = record { centre = from; list = list; answer = has; has = there }

-- ---- one note more of an actor

-- what a client may note grows by one note
pub client_one_more : (s : Client) (before done : List Note) (note : Note) → ClientDoes s before done → Allows (fold (λ s (note : Note). after s note.deed) s done) (before ++ done) note.deed → ClientDoes s before (done ++ note ∷ [])
client_one_more s before [] note does allowed = (subst (λ ns. Allows s ns note.deed) (append-nil before) allowed, tt)
client_one_more s before (first ∷ done) note does allowed = (
  does.0,
  client_one_more (after s first.deed) (before ++ first ∷ []) done note does.1 (subst (λ ns. Allows (fold (λ s (note : Note). after s note.deed) (after s first.deed) done) ns note.deed) (sym (append_assoc before (first ∷ []) done)) allowed),
)

-- the trails after notes of an actor
abbrev pub trails_on : ℕ → List Note → (ℕ → List Entry) → ℕ → List Entry
trails_on actor [] trails i = trails i
trails_on actor (note ∷ notes) trails i = trails_on actor notes (trails_after actor note.deed trails) i

-- what the operator or a worker may note grows by one note
pub carrier_one_more : (actor : ℕ) (trails : ℕ → List Entry) (done : List Note) (note : Note) → CarrierDoes actor trails done → CarrierAllows (trails_on actor done trails) note.deed → CarrierDoes actor trails (done ++ note ∷ [])
carrier_one_more actor trails [] note does allowed = (allowed, tt)
carrier_one_more actor trails (first ∷ done) note does allowed = (does.0, carrier_one_more actor (trails_after actor first.deed trails) done note does.1 allowed)
