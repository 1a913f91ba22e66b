-- Late copies of commits, and records that are delivered again, behind what happened.
use Rattle.std.proofs.Common.{◌≡◌, ℕ, ◌+◌, ◌≤◌, inl, inr, List, [], ◌∷◌, ◌++◌, map, Some, refl, sym, subst}
use Rattle.std.specs.Prelude.{slice_get, All}
use Rattle.std.proofs.lemmas.List.Elements.{All-nil, All-cons}
use Rattle.list_core.proofs.Gets.{get_In}
use Rattle.tx_core.specs.declared.tx.Tx.{Tx}
use Rattle.dc_talk.specs.declared.sent.Sent.{Sent}
use Rattle.dc_talk.specs.declared.ask.Ask.{Ask}
use Rattle.dc_talk.specs.declared.ask.Ask.TheVariants.{Commit, Deliver}
use Rattle.dc_talk.specs.declared.say.Say.{Say}
use Rattle.dc_talk.specs.declared.say.Say.TheVariants.{Records}
use Rattle.dc_talk.specs.declared.log.Fate.{Fate}
use Rattle.dc_talk.specs.declared.log.Fate.TheVariants.{Unheard}
use Rattle.dc_talk.specs.declared.log.Deed.TheVariants.{Asked}
use Rattle.dc_talk.specs.declared.log.Note.{Note}
use Rattle.dc_talk.specs.Entries.{Entry}
use Rattle.dc_talk.specs.Clients.{Client}
use Rattle.dc_talk.specs.Rule.{Allows, client_after}
use Rattle.run_book.specs.Setups.{Setup}
use Rattle.run_book.specs.Happenings.{Happened, notes_by, trail_in, trails_in, happening, GoesToOneOf, WasSent, CarrierAllows, ClientDoes, CarrierDoes, AreHistories, AreTogether}
use Rattle.run_book.proofs.Happenings.More.{client_then, carrier_then, operator_carries}
use Rattle.run_book.proofs.Happenings.Sending.{sent_before}

-- one ask, of a centre that there is
asks_one : (n centre : ℕ) (ask : Ask) (fate : Fate) (note : Note) → note.deed ≡ Asked centre ask fate → (1 ≤ centre) × (centre ≤ n) → All (GoesToOneOf n) (map (λ (note : Note). note.deed) (note ∷ []))
asks_one n centre ask fate note is range = All-cons (GoesToOneOf n) note.deed [] (subst (GoesToOneOf n) (sym is) range) (All-nil (GoesToOneOf n))

-- ---- late copies

-- a commit ask of these notes, whatever became of it, and the note of a late copy of it, to whatever centre
pub record IsCopied (notes : List Note) (centre : ℕ) (copy : Note) : Type 0 where
  pub place : ℕ
  pub note : Note
  pub there : slice_get notes place ≡ Some note
  pub first : ℕ
  pub tx : Tx
  pub fate : Fate
  pub asked : note.deed ≡ Asked first (Commit tx) fate
  pub say : Say
  pub again : copy.deed ≡ Asked centre (Commit tx) (Unheard say)

-- a late copy is allowed, however far the client is
pub copy_does : (s : Client) (notes : List Note) (centre : ℕ) (copy : Note) → IsCopied notes centre copy → ClientDoes s notes (copy ∷ [])
copy_does s notes centre copy c = (subst (Allows s notes) (sym c.again) (inr (inl (record { say = c.say; unheard = refl; tx = c.tx; commit = refl; place = c.place; note = c.note; there = c.there; centre = c.first; end = c.fate; same = c.asked }))), tt)

-- a client's late copy happened together with the rest
pub again_then : (n k : ℕ) (setup : Setup) (client : ℕ) (all : List Happened) (centre : ℕ) (copy : Note) → (1 ≤ client) × (client ≤ setup.clients) → (1 ≤ centre) × (centre ≤ n) → IsCopied (notes_by (client + 1) all) centre copy → AreTogether n k setup all → AreHistories n k setup (all ++ happening (client + 1) (copy ∷ [])) → AreTogether n k setup (all ++ happening (client + 1) (copy ∷ []))
again_then n k setup client all centre copy range reach c t histories =
    client_then n k setup client all (copy ∷ []) range t histories (asks_one n centre (Commit c.tx) (Unheard c.say) copy c.again reach)
    (copy_does (client_after n client setup.capacity (notes_by (client + 1) all)) (notes_by (client + 1) all) centre copy c)

-- ---- records delivered again

-- a record of an answer of a trail, and the note of a delivery of it
pub record IsRedelivered (trail : List Entry) (to : ℕ) (note : Note) : Type 0 where
  pub place : ℕ
  pub entry : Entry
  pub there : slice_get trail place ≡ Some entry
  pub list : List Sent
  pub says : entry.say ≡ Records list
  pub index : ℕ
  pub item : Sent
  pub among : slice_get list index ≡ Some item
  pub say : Say
  pub delivers : note.deed ≡ Asked to (Deliver item.item item.hops) (Unheard say)

-- the operator or a worker may deliver it
pub redelivered_does : (n k : ℕ) (setup : Setup) (actor : ℕ) (all : List Happened) (from to : ℕ) (note : Note) → AreTogether n k setup all → IsRedelivered (trail_in from all) to note → CarrierDoes actor (trails_in all) (note ∷ [])
redelivered_does n k setup actor all from to note t r =
    let sent : WasSent (trails_in all) r.item = sent_before all from r.list r.item (record { entry = r.entry; there = get_In (trail_in from all) r.place r.entry r.there; says = r.says }) (get_In r.list r.index r.item r.among) in
    (subst (CarrierAllows (trails_in all)) (sym r.delivers) sent, tt)

-- the operator's delivery of it happened together with the rest
pub redelivered_then : (n k : ℕ) (setup : Setup) (all : List Happened) (from to : ℕ) (note : Note) → (1 ≤ to) × (to ≤ n) → IsRedelivered (trail_in from all) to note → AreTogether n k setup all → AreHistories n k setup (all ++ happening 1 (note ∷ [])) → AreTogether n k setup (all ++ happening 1 (note ∷ []))
redelivered_then n k setup all from to note reach r t histories =
    carrier_then n k setup 1 all (note ∷ []) (operator_carries n setup.clients) t histories (asks_one n to (Deliver r.item.item r.item.hops) (Unheard r.say) note r.delivers reach)
    (redelivered_does n k setup 1 all from to note t r)
